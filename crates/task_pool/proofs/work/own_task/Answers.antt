use Rattle.std.proofs.Common.{ap, arith}
use Rattle.crossbeam_deque.specs.Handles.{worker_view}
use Rattle.task_pool.specs.declared.deque.Account.{Account}
use Rattle.task_pool.specs.Lists.{times}
use Rattle.task_pool.proofs.Times.{times-snoc}
use Rattle.task_pool.proofs.work.own_task.Goals as goal

pub returns-in_ok-answer-in-Some-clause-worked : goal.returns-in_ok-answer-in-Some-clause-worked
returns-in_ok-answer-in-Some-clause-worked g c = record {
  covers = λ x low.
      let t = ap (λ (h : Account). times x h.took) c.in-Some.ensures.took in
      let s = times-snoc x (worker_view c.args.state.now.owner).took c.in-Some.task in
      let m = c.in_ok-answer-in-Some.ensures.more x low in
      let was = c.requires.worked.covers x low in
      omega arith;
  right = c.in_ok-answer-in-Some.ensures.right;
}
