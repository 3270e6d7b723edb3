use Rattle.std.proofs.Common.{length, false, ◌≡◌}
use Rattle.local_engine.specs.Demoting.{AreToDemote}
use Rattle.local_engine.proofs.engine.LocalEngine.star.Given as goal

abbrev pub invariant-longest : goal.invariant-longest
invariant-longest g l = l.left.is_unknown ≡ false → AreToDemote l.graph l.book l.left.paths.items

abbrev pub decreases-longest : goal.decreases-longest
decreases-longest g l = length l.left.paths.items
