use Rattle.certificate.proofs.Versions.{value_of, value_is}
use Rattle.certificate.proofs.VersionLaws.{one_stated_of, lawful_of, writable_of}
use Rattle.certificate.proofs.laws.law_version.Goals as goal

pub returns-clause-some : goal.returns-clause-some
returns-clause-some c = λ v. (value_of v, value_is v)

pub returns-clause-one : goal.returns-clause-one
returns-clause-one c = one_stated_of

pub returns-clause-lawful : goal.returns-clause-lawful
returns-clause-lawful c = lawful_of

pub returns-clause-writable : goal.returns-clause-writable
returns-clause-writable c = writable_of
