use Rattle.std.proofs.Common.{◌≡◌, ◌+◌, ◌*◌, ◌-◌, ◌<◌, length, slice_set}
use Rattle.std.specs.List.Sorted.{IsPermutation}
use Rattle.weight_classes.specs.Turns.{MaySink, key_at}
use Rattle.weight_classes.proofs.turns.sink.Given as goal

abbrev pub invariant-sinking : goal.invariant-sinking
invariant-sinking l = record {
  place : l.hole < length l.turns;
  right : l.right ≡ 2 * l.hole + 2;
  moved : IsPermutation (slice_set l.initial.turns 0 l.turn) (slice_set l.turns l.hole l.turn);
  sinks : MaySink (key_at (slice_set l.turns l.hole l.turn)) (length l.turns) l.hole;
}

abbrev pub decreases-sinking : goal.decreases-sinking
decreases-sinking l = length l.turns - l.hole
