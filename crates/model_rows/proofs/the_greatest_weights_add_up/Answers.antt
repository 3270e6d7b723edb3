use Rattle.std.specs.Prelude.{[], ◌∷◌, refl}
use Rattle.model_rows.specs.Networks.{heaviest}
use Rattle.apsp_model.proofs.Deciding.{least_from, no_walk_from, weight_by_is}
use Rattle.model_rows.proofs.Rows.{known_from}
use Rattle.model_rows.proofs.the_greatest_weights_add_up.Goals as goal

pub returns-clause-least : goal.returns-clause-least
returns-clause-least c = least_from (known_from 3 heaviest) 0 2 (0 ∷ 1 ∷ 2 ∷ []) refl refl refl

pub returns-clause-weight : goal.returns-clause-weight
returns-clause-weight c = weight_by_is (known_from 3 heaviest) (0 ∷ 1 ∷ 2 ∷ [])

pub returns-clause-itself : goal.returns-clause-itself
returns-clause-itself c = least_from (known_from 3 heaviest) 2 2 (2 ∷ []) refl refl refl

pub returns-clause-nothing : goal.returns-clause-nothing
returns-clause-nothing c = weight_by_is (known_from 3 heaviest) (2 ∷ [])

pub returns-clause-none : goal.returns-clause-none
returns-clause-none c = no_walk_from (known_from 3 heaviest) 2 0 refl
