use Rattle.std.specs.Prelude.{true, [], ◌∷◌, refl}
use Rattle.std.proofs.Common.{sym}
use Rattle.std.proofs.lemmas.Bool.{true≢false}
use Rattle.model_rows.specs.Networks.{two_stars}
use Rattle.model_rows.proofs.Rows.{counts_are, births_are, historical_are}
use Rattle.model_rows.proofs.cleaning_drops_what_is_not_least.Goals as goal

pub returns-clause-dropped : goal.returns-clause-dropped
returns-clause-dropped c = λ h. true≢false (sym ((historical_are 3 true two_stars (0 ∷ 2 ∷ [])).0 h))

pub returns-clause-birth : goal.returns-clause-birth
returns-clause-birth c = (births_are 3 true two_stars (0 ∷ 2 ∷ []) 3).1 (refl, refl)

pub returns-clause-counts : goal.returns-clause-counts
returns-clause-counts c =
    counts_are 3 true (1, ((1, 2), 3) ∷ ((0, 1), 4) ∷ []) ((0, ((0, 1), 4) ∷ ((0, 2), 9) ∷ []) ∷ []) refl
