use Rattle.path_book.proofs.Noted.{AreFilled}
use Rattle.path_book.proofs.dirty.Dirty.list.Given as goal

abbrev pub invariant-rows : goal.invariant-rows
invariant-rows l = AreFilled l.initial.self l.self l.x
