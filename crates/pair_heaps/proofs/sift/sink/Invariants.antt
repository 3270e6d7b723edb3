use Rattle.std.proofs.Common.{◌-◌, ◌<◌, length}
use Rattle.std.specs.List.Sorted.{IsPermutation}
use Rattle.pair_heaps.specs.Sifting.{IsSinking}
use Rattle.pair_heaps.proofs.sift.sink.Given as goal

abbrev pub invariant-sinking : goal.invariant-sinking
invariant-sinking l = record {
  moved : IsPermutation l.initial.ids l.ids;
  place : l.hole < length l.ids;
  sinking : IsSinking l.arena l.ids l.hole;
}

abbrev pub decreases-sinking : goal.decreases-sinking
decreases-sinking l = length l.ids - l.hole
