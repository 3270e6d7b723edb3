use Rattle.std.proofs.Common.{◌≡◌, ℕ, List, [], ◌++◌, ap, ◌∙◌}
use Rattle.std.specs.Prelude.{Some, Result, Ok, Err}
use Rattle.apsp_io.specs.declared.sink.GiveError.{GiveError}
use Rattle.apsp_io.specs.declared.sink.GiveError.TheVariants as give
use Rattle.certificate.specs.Giving.{GivesText}
use Rattle.load_run.proofs.certified.written.Goals as goal

-- a sink without faults that began empty holds the whole text
whole : (r : Result (Unit {0}) GiveError) (u : Unit {0}) (old new text : List ℕ) → old ≡ [] → r ≡ Ok u
    → GivesText r (Some old) (Some new) 0 0 text → new ≡ text
whole (Ok v) u old new text none is given = given ∙ ap (λ o. o ++ text) none
whole (Err give.Failed) u old new text none is given = cc
whole (Err give.Memory) u old new text none is given = cc

pub returns-in-Ok : goal.returns-in-Ok
returns-in-Ok c =
    let t = c.write_certificate.ensures.text in
    record { text = (t.0, t.1, whole _ _ _ _ _ c.new-text.ensures c.in-Ok.is t.2) }
