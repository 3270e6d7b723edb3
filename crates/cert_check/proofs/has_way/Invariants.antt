use Rattle.cert_check.proofs.Ways.{NoWay}
use Rattle.cert_check.proofs.has_way.Given as goal

abbrev pub invariant-ways : goal.invariant-ways
invariant-ways l = NoWay l.stated l.x l.y l.ends l.u-index
