use Rattle.std.specs.Prelude.{false, [], ◌∷◌, refl}
use Rattle.model_rows.specs.Networks.{two_stars}
use Rattle.apsp_model.proofs.Deciding.{least_from, weight_by_is}
use Rattle.model_rows.proofs.Rows.{known_from, counts_are, births_are, historical_are, kept_are}
use Rattle.model_rows.proofs.what_was_least_stays_historical.Goals as goal

pub returns-clause-least : goal.returns-clause-least
returns-clause-least c = least_from (known_from 3 two_stars) 0 2 (0 ∷ 1 ∷ 2 ∷ []) refl refl refl

pub returns-clause-weight : goal.returns-clause-weight
returns-clause-weight c = weight_by_is (known_from 3 two_stars) (0 ∷ 1 ∷ 2 ∷ [])

pub returns-clause-kept : goal.returns-clause-kept
returns-clause-kept c = λ p. kept_are 3 false two_stars p

pub returns-clause-stays : goal.returns-clause-stays
returns-clause-stays c = (historical_are 3 false two_stars (0 ∷ 2 ∷ [])).1 refl

pub returns-clause-birth : goal.returns-clause-birth
returns-clause-birth c = (births_are 3 false two_stars (0 ∷ 2 ∷ []) 1).1 (refl, refl)

pub returns-clause-counts : goal.returns-clause-counts
returns-clause-counts c =
    counts_are 3 false (1, ((1, 2), 3) ∷ ((0, 1), 4) ∷ []) ((0, ((0, 1), 4) ∷ ((0, 2), 9) ∷ []) ∷ []) refl
