use Rattle.std.proofs.Common.{◌≡◌}
use Rattle.block_run.proofs.publish.publish.Given as goal

abbrev pub invariant-loop : goal.invariant-loop
invariant-loop g l = l.publisher ≡ l.initial.publisher
