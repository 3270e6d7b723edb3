use Rattle.cert_check.proofs.Verdicts.{verdict_exists, one_verdict}
use Rattle.cert_check.proofs.laws.law_verdict.Goals as goal

pub returns-clause-some : goal.returns-clause-some
returns-clause-some c s range = verdict_exists s range

pub returns-clause-one : goal.returns-clause-one
returns-clause-one c s v w h k = one_verdict s v w h k
