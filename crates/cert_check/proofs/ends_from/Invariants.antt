use Rattle.cert_check.specs.Pairs.{AreEnds}
use Rattle.cert_check.proofs.ends_from.Given as goal

abbrev pub invariant-ends : goal.invariant-ends
invariant-ends l = AreEnds l.stated l.x l.u l.ends.items
