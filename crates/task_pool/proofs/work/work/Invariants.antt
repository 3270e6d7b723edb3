use Rattle.task_pool.specs.States.{IsRow, HasWorked, SameOwner}
use Rattle.task_pool.proofs.work.work.Given as goal

abbrev pub invariant-loop : goal.invariant-loop
invariant-loop g l = record {
  own : SameOwner l.fn.state l.state;
  row : IsRow l.thieves l.state.passes.items;
  worked : HasWorked (g.J.Job.gives l.job) l.tasks l.state;
}
