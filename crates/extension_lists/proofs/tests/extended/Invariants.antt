use Rattle.extension_lists.proofs.Filled.{AreFilled}
use Rattle.extension_lists.proofs.tests.extended.Given as goal

abbrev pub invariant-stars : goal.invariant-stars
invariant-stars l = AreFilled l.lists l.key l.key

abbrev pub invariant-others : goal.invariant-others
invariant-others l = AreFilled l.lists l.key l.key
