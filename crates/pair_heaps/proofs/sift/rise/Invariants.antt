use Rattle.std.proofs.Common.{◌<◌, length}
use Rattle.std.specs.List.Sorted.{IsPermutation}
use Rattle.pair_heaps.specs.Sifting.{IsRising}
use Rattle.pair_heaps.proofs.sift.rise.Given as goal

abbrev pub invariant-rising : goal.invariant-rising
invariant-rising l = record {
  moved : IsPermutation l.initial.ids l.ids;
  place : l.hole < length l.ids;
  rising : IsRising l.arena l.ids l.hole;
}

abbrev pub decreases-rising : goal.decreases-rising
decreases-rising l = l.hole
