use Rattle.std.proofs.Common.{◌≡◌}
use Rattle.cleanup_tasks.specs.Under.{upto}
use Rattle.cleanup_tasks.proofs.tasks.by_hops.Given as goal

abbrev pub invariant-levels : goal.invariant-levels
invariant-levels l = l.ids.items ≡ upto l.at l.walked
