use Rattle.std.proofs.Common.{ap, arith, length}
use Rattle.id_pool.specs.Lists.{list_at}
use Rattle.extension_lists.proofs.Taken.{taken_back}
use Rattle.extension_lists.proofs.side.take_back.Goals as goal

pub returns-clause-ids : goal.returns-clause-ids
returns-clause-ids c =
    (taken_back (list_at c.args.pool.now c.args.list) (list_at c.take_at.new.self c.args.list) _ c.take_at.ensures.taken
    (omega (arith, c.requires.plain, ap length c.ids.ensures.lent))
    (omega (arith, c.requires.plain, ap length c.ids.ensures.lent))).0

pub returns-clause-marked : goal.returns-clause-marked
returns-clause-marked c =
    (taken_back (list_at c.args.pool.now c.args.list) (list_at c.take_at.new.self c.args.list) _ c.take_at.ensures.taken
    (omega (arith, c.requires.plain, ap length c.ids.ensures.lent))
    (omega (arith, c.requires.plain, ap length c.ids.ensures.lent))).1
