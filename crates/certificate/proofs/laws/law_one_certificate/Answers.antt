use Rattle.certificate.proofs.Late.{never_memory}
use Rattle.certificate.proofs.Texts.{cert_again, one_stated, one_text, text_parts}
use Rattle.certificate.proofs.laws.law_one_certificate.Goals as goal

pub returns-clause-text : goal.returns-clause-text
returns-clause-text c = one_text

pub returns-clause-stated : goal.returns-clause-stated
returns-clause-stated c = one_stated

pub returns-clause-read : goal.returns-clause-read
returns-clause-read c = λ s a. (cert_again s a, text_parts a s)

pub returns-clause-fault : goal.returns-clause-fault
returns-clause-fault c = never_memory
