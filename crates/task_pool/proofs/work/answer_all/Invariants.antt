use Rattle.std.proofs.Common.{◌≡◌, ℕ, ◌+◌, ◌<◌, All, vec_len}
use Rattle.task_pool.specs.Lists.{times}
use Rattle.task_pool.specs.States.{tasks_of, IsRight}
use Rattle.task_pool.proofs.work.answer_all.Given as goal

abbrev pub invariant-loop-task : goal.invariant-loop-task
invariant-loop-task g l = record {
  right : All (IsRight (g.J.Job.gives l.job) l.tasks) l.done.items;
  more : (x : ℕ) → x < l.tasks → times x (tasks_of l.done.items) + times x l.left.items ≡ times x
      (tasks_of l.initial.done.items) + times x l.initial.left.items;
}

abbrev pub decreases-loop-task : goal.decreases-loop-task
decreases-loop-task g l = vec_len l.left
