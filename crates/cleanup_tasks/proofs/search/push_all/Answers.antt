use Rattle.std.proofs.Common.{arith}
use Rattle.cleanup_tasks.proofs.Levels.{behind_more}
use Rattle.cleanup_tasks.proofs.search.push_all.Goals as goal

pub more-preserved : goal.more-preserved
more-preserved c = (
  behind_more c.reserve.new.self.items c.more.ids.items c.push_reserved.new.self.items c.args.more.now c.more.id-index
      c.id-item.result c.more-test.true c.id-item.is c.more.invariant.0 c.push_reserved.ensures.items,
  omega (arith, c.push_reserved.ensures.len, c.more.invariant.1),
  omega (arith, c.push_reserved.ensures.capacity, c.more.invariant.2),
)
