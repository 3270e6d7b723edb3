use Rattle.std.proofs.Common.{ap, arith}
use Rattle.task_pool.specs.Lists.{times}
use Rattle.task_pool.proofs.Times.{times-snoc}
use Rattle.task_pool.proofs.work.answer_all.Goals as goal

pub loop-task-preserved : goal.loop-task-preserved
loop-task-preserved g c = let inv = c.loop-task.invariant in let e = c.in_ok-answer.ensures in record {
  right = e.right;
  more = λ x low.
      let a = e.more x low in
      let p = ap (times x) c.in-Some.ensures.items in
      let s = times-snoc x c.pop.new.self.items c.in-Some.task in
      let was = inv.more x low in
      omega arith;
}
