use Rattle.cert_check.proofs.Ways.{NoneSmaller}
use Rattle.cert_check.proofs.has_smaller.Given as goal

abbrev pub invariant-ways : goal.invariant-ways
invariant-ways l = NoneSmaller l.stated l.x l.y l.entry l.ends l.u-index
