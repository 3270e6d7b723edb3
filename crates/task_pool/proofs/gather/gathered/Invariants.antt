use Rattle.std.proofs.Common.{◌≡◌, ℕ, ◌+◌, ◌<◌, All, vec_len}
use Rattle.apsp_model.specs.Totals.{total}
use Rattle.task_pool.specs.Lists.{times}
use Rattle.task_pool.specs.States.{tasks_of, IsRight, OwnsAll, pushed_at, took_at, did_at}
use Rattle.task_pool.proofs.gather.gathered.Given as goal

abbrev pub invariant-loop-state : goal.invariant-loop-state
invariant-loop-state g l = record {
  own : All OwnsAll l.states.items;
  rights : All (λ d. All (IsRight (g.J.Job.gives l.job) l.tasks) d.done.items) l.states.items;
  right : All (IsRight (g.J.Job.gives l.job) l.tasks) l.done.items;
  sums : (x : ℕ) → x < l.tasks → times x (tasks_of l.done.items) + total (did_at x) l.states.items + total (pushed_at x)
      l.states.items ≡ 1 + total (took_at x) l.states.items;
}

abbrev pub decreases-loop-state : goal.decreases-loop-state
decreases-loop-state g l = vec_len l.states
