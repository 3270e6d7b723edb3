use Rattle.path_book.proofs.Noted.{IsFilling}
use Rattle.path_book.proofs.dirty.Dirty.list_row.Given as goal

abbrev pub invariant-row : goal.invariant-row
invariant-row l = IsFilling l.initial.self l.self l.x l.y
