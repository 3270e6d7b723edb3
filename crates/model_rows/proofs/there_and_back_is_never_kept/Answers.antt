use Rattle.std.specs.Prelude.{false, [], ◌∷◌, refl}
use Rattle.model_rows.specs.Networks.{there_and_back}
use Rattle.model_rows.proofs.Rows.{counts_are, kept_are}
use Rattle.model_rows.proofs.there_and_back_is_never_kept.Goals as goal

pub returns-clause-kept : goal.returns-clause-kept
returns-clause-kept c = λ p. kept_are 2 false there_and_back p

pub returns-clause-counts : goal.returns-clause-counts
returns-clause-counts c = counts_are 2 false (0, ((0, 1), 1) ∷ ((1, 0), 1) ∷ []) ([]) refl
