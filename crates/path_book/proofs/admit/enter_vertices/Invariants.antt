use Rattle.path_book.specs.Layout.{IsOpenedTo}
use Rattle.path_book.proofs.admit.enter_vertices.Given as goal

abbrev pub invariant-loop-v : goal.invariant-loop-v
invariant-loop-v l = IsOpenedTo l.arena l.lists l.marks.items l.v
