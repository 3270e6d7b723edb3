use Rattle.std.proofs.Common.{◌≡◌}
use Rattle.book_widening.specs.Copies.{AreCopies}
use Rattle.book_widening.proofs.Longer.{AreCopiedUpto}
use Rattle.book_widening.proofs.widening.copy_all.Given as goal

abbrev pub invariant-ids : goal.invariant-ids
invariant-ids l =
    AreCopies l.book l.wide l.copies.items × AreCopiedUpto l.initial.copies.items l.ids l.id-index l.copies.items
    × (l.wide.arena.vertices ≡ l.initial.wide.arena.vertices)
