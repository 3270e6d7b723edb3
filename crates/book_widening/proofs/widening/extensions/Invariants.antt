use Rattle.book_widening.proofs.Longer.{AreBehind}
use Rattle.book_widening.proofs.widening.extensions.Given as goal

abbrev pub invariant-level : goal.invariant-level
invariant-level l = AreBehind l.book l.level l.id-index l.longer.items
