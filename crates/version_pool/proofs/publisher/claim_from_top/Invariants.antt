use Rattle.std.proofs.Common.{◌≤◌}
use Rattle.version_pool.specs.Pooled.{LosesFrom}
use Rattle.version_pool.proofs.publisher.claim_from_top.Given as goal

abbrev pub invariant-loop-slot : goal.invariant-loop-slot
invariant-loop-slot l = record {
  most : l.slot ≤ l.cells.slots;
  lost : LosesFrom l.initial.tally l.tally l.cells.slots l.announced l.slot;
}

abbrev pub decreases-loop-slot : goal.decreases-loop-slot
decreases-loop-slot l = l.slot
