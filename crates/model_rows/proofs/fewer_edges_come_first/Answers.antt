use Rattle.std.specs.Prelude.{false, [], ◌∷◌, refl}
use Rattle.model_rows.specs.Networks.{shortcut}
use Rattle.apsp_model.proofs.Deciding.{least_from, weight_by_is}
use Rattle.model_rows.proofs.Rows.{known_from, counts_are, births_are}
use Rattle.model_rows.proofs.fewer_edges_come_first.Goals as goal

pub returns-clause-least : goal.returns-clause-least
returns-clause-least c = least_from (known_from 4 shortcut) 0 3 (0 ∷ 3 ∷ []) refl refl refl

pub returns-clause-weight : goal.returns-clause-weight
returns-clause-weight c = weight_by_is (known_from 4 shortcut) (0 ∷ 3 ∷ [])

pub returns-clause-birth : goal.returns-clause-birth
returns-clause-birth c = (births_are 4 false shortcut (0 ∷ 1 ∷ 3 ∷ []) 3).1 (refl, refl)

pub returns-clause-counts : goal.returns-clause-counts
returns-clause-counts c =
    counts_are 4 false (0, ((0, 1), 1) ∷ ((0, 2), 2) ∷ ((0, 3), 3) ∷ [])
    ((3, ((1, 3), 2) ∷ ((2, 3), 1) ∷ []) ∷ (0, ((0, 1), 1) ∷ ((0, 2), 2) ∷ []) ∷ []) refl
