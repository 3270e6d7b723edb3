use Rattle.std.proofs.Common.{◌≡◌}
use Rattle.fixup.proofs.tests.star_with.Given as goal

abbrev pub invariant-edges : goal.invariant-edges
invariant-edges l = l.star.vertices ≡ l.n
