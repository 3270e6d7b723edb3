use Rattle.std.specs.Prelude.{false, [], ◌∷◌, refl}
use Rattle.model_rows.specs.Networks.{weightless}
use Rattle.apsp_model.proofs.Deciding.{least_from, weight_by_is}
use Rattle.model_rows.proofs.Rows.{known_from, counts_are, births_are, kept_are}
use Rattle.model_rows.proofs.of_walks_of_weight_0_the_fewest_edges_are_least.Goals as goal

pub returns-clause-least : goal.returns-clause-least
returns-clause-least c = least_from (known_from 3 weightless) 0 2 (0 ∷ 2 ∷ []) refl refl refl

pub returns-clause-weight : goal.returns-clause-weight
returns-clause-weight c = weight_by_is (known_from 3 weightless) (0 ∷ 1 ∷ 2 ∷ [])

pub returns-clause-cycle : goal.returns-clause-cycle
returns-clause-cycle c = least_from (known_from 3 weightless) 0 0 (0 ∷ []) refl refl refl

pub returns-clause-kept : goal.returns-clause-kept
returns-clause-kept c = λ p. kept_are 3 false weightless p

pub returns-clause-birth : goal.returns-clause-birth
returns-clause-birth c = (births_are 3 false weightless (0 ∷ 2 ∷ []) 1).1 (refl, refl)

pub returns-clause-counts : goal.returns-clause-counts
returns-clause-counts c =
    counts_are 3 false (1, ((0, 1), 0) ∷ ((1, 0), 0) ∷ ((1, 2), 0) ∷ []) ((0, ((0, 2), 0) ∷ []) ∷ []) refl
