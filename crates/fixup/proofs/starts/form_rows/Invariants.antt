use Rattle.path_book.specs.Book.{Book}
use Rattle.fixup.specs.Growth.{RowsAreFormed}
use Rattle.fixup.proofs.starts.form_rows.Given as goal

abbrev pub invariant-rows : goal.invariant-rows
invariant-rows l = RowsAreFormed l.graph l.birth l.initial.book l.u 0 l.book

abbrev pub invariant-edges : goal.invariant-edges
invariant-edges l =
    (b0 : Book) → RowsAreFormed l.graph l.birth b0 l.u 0 l.initial.book
    → RowsAreFormed l.graph l.birth b0 l.u l.v l.book
