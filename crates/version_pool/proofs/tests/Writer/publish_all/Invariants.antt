use Rattle.std.proofs.Common.{◌≡◌}
use Rattle.version_pool.proofs.tests.Writer.publish_all.Given as goal

abbrev pub invariant-loop : goal.invariant-loop
invariant-loop l = l.self ≡ l.initial.self
