use Rattle.std.proofs.Common.{ℕ, Contains, take}
use Rattle.fixup.specs.Listing.{AreAdded, Lists}
use Rattle.fixup.proofs.listing.list_alone.Given as goal

abbrev pub invariant-winners : goal.invariant-winners
invariant-winners g l =
    AreAdded (λ j. (w : ℕ) × Contains (take l.winner-index l.winners) w × Lists l.book l.winners w j)
    l.initial.joins.items l.joins.items
