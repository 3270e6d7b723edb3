use Rattle.std.proofs.Common.{◌<◌, length, slice_set}
use Rattle.std.specs.List.Sorted.{IsPermutation}
use Rattle.weight_classes.specs.Turns.{MayRise, key_at}
use Rattle.weight_classes.proofs.turns.rise.Given as goal

abbrev pub invariant-rising : goal.invariant-rising
invariant-rising l = record {
  place : l.hole < length l.turns;
  moved : IsPermutation l.initial.turns (slice_set l.turns l.hole l.turn);
  rises : MayRise (key_at (slice_set l.turns l.hole l.turn)) (length l.turns) l.hole;
}

abbrev pub decreases-rising : goal.decreases-rising
decreases-rising l = l.hole
