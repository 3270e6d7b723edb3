use Rattle.std.proofs.Common.{◌-◌, length}
use Rattle.apsp_model.specs.declared.TheConstants.{MOST_VERTICES}
use Rattle.cleanup_tasks.proofs.Under.{IsWalking}
use Rattle.cleanup_tasks.proofs.tasks.levels_from.Given as goal

abbrev pub invariant-levels : goal.invariant-levels
invariant-levels l = IsWalking l.book l.v l.fn.edge l.levels.items l.level

abbrev pub decreases-levels : goal.decreases-levels
decreases-levels l = MOST_VERTICES - length l.levels.items
