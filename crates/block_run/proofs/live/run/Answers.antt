use Rattle.std.proofs.Common.{sym, subst}
use Rattle.block_run.specs.Reading.{AreAsksOf}
use Rattle.block_run.proofs.Ordered.{if_lists_of, if_long}
use Rattle.block_run.proofs.live.run.Goals as goal

pub run_beside-requires-clause-asks : goal.run_beside-requires-clause-asks
run_beside-requires-clause-asks g c κs within =
    subst (λ p. AreAsksOf p c.lo-lo.result c.args.asks.now) (sym c.requires.can.plan_is)
    (record { is_plan = c.lo-lo.ensures.is_plan; lo_is = c.lo-lo.ensures.lo; each = c.requires.asks })

pub returns-clause-len : goal.returns-clause-len
returns-clause-len g c =
    if_long c.args.pool.now.plan c.args.asks.now c.args.readers c.in_ok-lists.lists.items c.in_ok-lists.ensures.lists
    c.unwrapped.result c.unwrapped.ensures

pub returns-clause-each : goal.returns-clause-each
returns-clause-each g c =
    if_lists_of c.args.plan.now c.args.pool.now.plan c.args.asks.now c.args.readers c.in_ok-lists.lists.items
    c.requires.can.plan_is c.requires.numbered c.in_ok-lists.ensures.lists c.unwrapped.result c.unwrapped.ensures
