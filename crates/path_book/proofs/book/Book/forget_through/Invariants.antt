use Rattle.std.proofs.Common.{length}
use Rattle.path_book.specs.Layout.{view_of}
use Rattle.path_book.proofs.Through.{IsForgetting}
use Rattle.path_book.proofs.book.Book.forget_through.Given as goal

abbrev pub invariant-longest : goal.invariant-longest
invariant-longest l =
    IsForgetting (view_of l.initial.self-inside) l.v l.ids l.rest (view_of l.self-inside) l.self-inside.heaps
    l.self-inside.dirty l.self-inside.historical l.self-inside.pending

abbrev pub decreases-longest : goal.decreases-longest
decreases-longest l = length l.rest
