use Rattle.std.specs.Prelude.{false, [], ◌∷◌, refl}
use Rattle.std.proofs.Common.{sym}
use Rattle.std.proofs.lemmas.Bool.{true≢false}
use Rattle.model_rows.specs.Networks.{diamond}
use Rattle.apsp_model.proofs.Deciding.{least_from, weight_by_is}
use Rattle.model_rows.proofs.Rows.{known_from, counts_are, historical_are, kept_are}
use Rattle.model_rows.proofs.of_two_ways_the_first_list_is_least.Goals as goal

pub returns-clause-least : goal.returns-clause-least
returns-clause-least c = least_from (known_from 4 diamond) 0 3 (0 ∷ 1 ∷ 3 ∷ []) refl refl refl

pub returns-clause-weight : goal.returns-clause-weight
returns-clause-weight c = weight_by_is (known_from 4 diamond) (0 ∷ 1 ∷ 3 ∷ [])

pub returns-clause-kept : goal.returns-clause-kept
returns-clause-kept c = λ p. kept_are 4 false diamond p

pub returns-clause-other : goal.returns-clause-other
returns-clause-other c = λ h. true≢false (sym ((historical_are 4 false diamond (0 ∷ 2 ∷ 3 ∷ [])).0 h))

pub returns-clause-counts : goal.returns-clause-counts
returns-clause-counts c =
    counts_are 4 false (3, ((1, 3), 2) ∷ ((2, 3), 1) ∷ []) ((0, ((0, 1), 1) ∷ ((0, 2), 2) ∷ []) ∷ []) refl
