use Rattle.std.proofs.Common.{◌≡◌, ◌-◌, ◌+◌, vec_len}
use Rattle.path_book.specs.Layout.{marked_in}
use Rattle.path_book.proofs.marks.make_room.Given as goal

abbrev pub invariant-room : goal.invariant-room
invariant-room l = marked_in l.marks.items ≡ marked_in l.initial.marks.items

abbrev pub decreases-room : goal.decreases-room
decreases-room l = l.key + 1 - vec_len l.marks
