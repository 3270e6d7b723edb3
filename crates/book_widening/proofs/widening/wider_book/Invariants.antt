use Rattle.std.proofs.Common.{◌≡◌, ◌-◌, ◌≤◌}
use Rattle.book_widening.specs.Copies.{IsLevel, AreCopies, AreCopied}
use Rattle.book_widening.proofs.widening.wider_book.Given as goal

abbrev pub invariant-levels : goal.invariant-levels
invariant-levels l =
    IsLevel l.book (l.counter - 1) l.level.items × AreCopies l.book l.wide l.copies.items
    × AreCopied l.book (l.counter - 1) l.copies.items × (l.wide.arena.vertices ≡ l.n) × (1 ≤ l.counter)
