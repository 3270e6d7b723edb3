use Rattle.std.proofs.Common.{take}
use Rattle.path_book.specs.Layout.{AreHeadsOf}
use Rattle.path_book.proofs.book.Book.push_heads.Given as goal

abbrev pub invariant-pairs : goal.invariant-pairs
invariant-pairs l = AreHeadsOf l.self (take l.x-index l.pairs) l.heads.items
