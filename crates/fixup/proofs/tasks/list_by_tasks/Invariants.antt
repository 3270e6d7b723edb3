use Rattle.fixup.specs.Listing.{AreAdded, Lists}
use Rattle.std.proofs.Common.{ℕ, Contains, take}
use Rattle.fixup.proofs.tasks.list_by_tasks.Given as goal

abbrev pub invariant-lists : goal.invariant-lists
invariant-lists g l =
    AreAdded (λ j. (w : ℕ) × Contains (take l.list-index l.winners) w × Lists l.book l.winners w j)
    l.initial.joins.items l.joins.items
