use Rattle.fixup.proofs.Untouched.{HasNoneBelow}
use Rattle.fixup.proofs.tests.has_none_at.Given as goal

abbrev pub invariant-others : goal.invariant-others
invariant-others l = HasNoneBelow l.graph l.v l.u
