use Rattle.book_widening.proofs.Longer.{AreSinglesCopied}
use Rattle.book_widening.proofs.widening.copy_singles.Given as goal

abbrev pub invariant-vertices : goal.invariant-vertices
invariant-vertices l = AreSinglesCopied l.book l.wide l.v l.ids.items l.copies.items
