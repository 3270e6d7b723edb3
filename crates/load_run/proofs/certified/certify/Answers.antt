use Rattle.std.proofs.Common.{◌≡◌, ℕ}
use Rattle.apsp_model.specs.Stated.{Stated, IsLawful}
use Rattle.cert_check.specs.declared.Reason.{Reason}
use Rattle.cert_check.specs.declared.Verdict.{Verdict}
use Rattle.cert_check.specs.declared.Verdict.TheVariants.{Yes, No}
use Rattle.cert_check.specs.Tests.{IsVerdict}
use Rattle.load_run.proofs.certified.certify.Goals as goal

-- the checker does not say no to what is lawful
no_no : (s : Stated) (v : Verdict) (x y : ℕ) (r : Reason) → v ≡ No x y r → IsVerdict s v → IsLawful s → ⊥
no_no s (Yes k) x y r is verdict lawful = cc
no_no s (No a b q) x y r is verdict lawful = verdict.0 lawful

pub unreachable-requires : goal.unreachable-requires
unreachable-requires c =
    no_no _ _ _ _ _ c.in-No.is c.check.ensures
    (c.law_version.ensures.lawful c.args.version.now _ c.in_ok-stated.ensures)
