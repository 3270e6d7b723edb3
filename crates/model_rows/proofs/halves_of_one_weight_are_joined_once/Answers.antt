use Rattle.std.specs.Prelude.{false, [], ◌∷◌, refl}
use Rattle.model_rows.specs.Networks.{halves}
use Rattle.model_rows.proofs.Rows.{counts_are, kept_are}
use Rattle.model_rows.proofs.halves_of_one_weight_are_joined_once.Goals as goal

pub returns-clause-kept : goal.returns-clause-kept
returns-clause-kept c = λ p. kept_are 3 false halves p

pub returns-clause-counts : goal.returns-clause-counts
returns-clause-counts c = counts_are 3 false (1, ((0, 1), 2) ∷ ((1, 2), 2) ∷ []) ([]) refl
