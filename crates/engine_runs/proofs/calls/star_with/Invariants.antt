use Rattle.std.proofs.Common.{◌≡◌}
use Rattle.engine_runs.proofs.calls.star_with.Given as goal

abbrev pub invariant-edges : goal.invariant-edges
invariant-edges l = l.star.vertices ≡ l.n
