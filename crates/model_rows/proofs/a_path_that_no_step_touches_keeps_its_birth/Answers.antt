use Rattle.std.specs.Prelude.{false, [], ◌∷◌, refl}
use Rattle.model_rows.specs.Networks.{way_closed}
use Rattle.apsp_model.proofs.Deciding.{least_from, weight_by_is}
use Rattle.model_rows.proofs.Rows.{known_from, counts_are, births_are}
use Rattle.model_rows.proofs.a_path_that_no_step_touches_keeps_its_birth.Goals as goal

pub returns-clause-least : goal.returns-clause-least
returns-clause-least c = least_from (known_from 3 way_closed) 0 2 (0 ∷ 2 ∷ []) refl refl refl

pub returns-clause-weight : goal.returns-clause-weight
returns-clause-weight c = weight_by_is (known_from 3 way_closed) (0 ∷ 2 ∷ [])

pub returns-clause-birth : goal.returns-clause-birth
returns-clause-birth c = (births_are 3 false way_closed (0 ∷ 2 ∷ []) 1).1 (refl, refl)

pub returns-clause-counts : goal.returns-clause-counts
returns-clause-counts c =
    counts_are 3 false (1, []) ((1, ((1, 2), 3) ∷ ((0, 1), 4) ∷ []) ∷ (0, ((0, 1), 4) ∷ ((0, 2), 9) ∷ []) ∷ []) refl
