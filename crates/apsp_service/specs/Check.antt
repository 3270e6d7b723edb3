-- What is said of an input that should be a certificate.
use Rattle.std.specs.Prelude.{◌≡◌, ◌⊎◌, ℕ, List, ◌++◌, codes, Err}
use Rattle.std.specs.Fmt.{decimal}
use Rattle.apsp_model.specs.Stated.{Stated}
use Rattle.certificate.specs.declared.CertError.{CertError}
use Rattle.certificate.specs.declared.CertError.TheVariants.{Shape, Order, Range, Memory}
use Rattle.certificate.specs.Grammar.{IsCertText}
use Rattle.certificate.specs.Reading.{stated_by}
use Rattle.cert_check.specs.declared.Reason.{Reason}
use Rattle.cert_check.specs.declared.Reason.TheVariants.{Step, Smaller, Missing}
use Rattle.cert_check.specs.declared.Verdict.{Verdict}
use Rattle.cert_check.specs.declared.Verdict.TheVariants.{Yes, No}
use Rattle.cert_check.specs.Tests.{IsVerdict}
use Rattle.apsp_service.specs.declared.check.TheConstants.{SHAPE, ORDER, RANGE}

abbrev pub reason_text : Reason → List ℕ
reason_text Step = codes "step"
reason_text Smaller = codes "smaller"
reason_text Missing = codes "missing"

abbrev pub verdict_text : Verdict → List ℕ
verdict_text (Yes number) = codes "certificate yes " ++ decimal number ++ codes "\n"
verdict_text (No x y reason) =
    codes "certificate no " ++ decimal x ++ codes " " ++ decimal y ++ codes " " ++ reason_text reason ++ codes "\n"

-- 0 for yes
abbrev pub verdict_status : Verdict → ℕ
verdict_status (Yes number) = 0
verdict_status (No x y reason) = 1

-- the code of a fault, and the number of its line
abbrev pub fault_text : ℕ → ℕ → List ℕ
fault_text code line = codes "certificate error " ++ decimal code ++ codes " at " ++ decimal line ++ codes "\n"

abbrev pub IsFaultReply : CertError → List ℕ → Type 0
IsFaultReply (Shape line) text = text ≡ fault_text SHAPE line
IsFaultReply (Order line) text = text ≡ fault_text ORDER line
IsFaultReply (Range line) text = text ≡ fault_text RANGE line
IsFaultReply Memory text = ⊥

-- the bytes are the certificate of a stated value, and this is said of it
pub record IsJudged (bytes text : List ℕ) (status : ℕ) : Type 0 where
  pub stated : Stated
  pub grammar : IsCertText stated bytes
  pub verdict : Verdict
  pub judged : IsVerdict stated verdict
  pub reply : text ≡ verdict_text verdict
  pub ended : status ≡ verdict_status verdict

-- they are none, and this is said of the first line at fault
pub record IsFaulty (bytes text : List ℕ) (status : ℕ) : Type 0 where
  pub fault : CertError
  pub first : stated_by bytes ≡ Err fault
  pub reply : IsFaultReply fault text
  pub ended : status ≡ 1

abbrev pub IsChecked : List ℕ → List ℕ → ℕ → Type 0
IsChecked bytes text status = IsJudged bytes text status ⊎ IsFaulty bytes text status
