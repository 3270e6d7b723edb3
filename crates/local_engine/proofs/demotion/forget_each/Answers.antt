use Rattle.std.proofs.Common.{arith}
use Rattle.local_engine.proofs.Forgetting.{edge_now, free_now, forgetting_more, forgetting_ends}
use Rattle.local_engine.proofs.demotion.forget_each.Goals as goal

pub forget-requires-clause-edge : goal.forget-requires-clause-edge
forget-requires-clause-edge c =
    edge_now c.args.book.now c.ids.book c.args.ids.now c.ids.id-index c.id-item.result c.ids.invariant.0
    c.ids-test.true c.id-item.is c.requires.once c.requires.edges c.show_lawful.ensures

pub forget-requires-clause-free : goal.forget-requires-clause-free
forget-requires-clause-free c =
    free_now c.args.book.now c.ids.book c.args.ids.now c.ids.id-index c.id-item.result c.ids.invariant.0
    c.ids-test.true c.id-item.is c.ids.invariant.1 c.requires.free

pub ids-preserved : goal.ids-preserved
ids-preserved c = (
  forgetting_more c.args.book.now c.ids.book c.args.ids.now c.ids.id-index c.id-item.result c.ids.invariant.0
      c.ids-test.true c.id-item.is c.forget.new.self c.forget.ensures.forgotten,
  c.forget.ensures.lawful,
)

pub returns-clause-forgotten : goal.returns-clause-forgotten
returns-clause-forgotten c = forgetting_ends c.args.book.now c.ids.book c.args.ids.now c.ids.id-index
    (omega (arith, c.ids-test.false)) c.ids.invariant.0
