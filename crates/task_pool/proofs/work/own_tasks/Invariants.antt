use Rattle.std.proofs.Common.{◌≡◌}
use Rattle.task_pool.specs.States.{HasWorked, SameOwner}
use Rattle.task_pool.proofs.work.own_tasks.Given as goal

abbrev pub invariant-loop : goal.invariant-loop
invariant-loop g l = record {
  own : SameOwner l.fn.state l.state;
  passes : l.state.passes ≡ l.fn.state.passes;
  worked : HasWorked (g.J.Job.gives l.job) l.tasks l.state;
}
