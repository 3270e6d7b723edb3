use Rattle.std.proofs.Common.{◌≡◌, ℕ, ◌-◌, ◌+◌, vec_len}
use Rattle.book_widening.specs.Copies.{copy_at}
use Rattle.book_widening.proofs.widening.note.Given as goal

abbrev pub invariant-room : goal.invariant-room
invariant-room l = (k : ℕ) → copy_at l.copies.items k ≡ copy_at l.initial.copies.items k

abbrev pub decreases-room : goal.decreases-room
decreases-room l = l.id + 1 - vec_len l.copies
