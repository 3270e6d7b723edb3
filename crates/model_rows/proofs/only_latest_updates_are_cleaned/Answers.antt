use Rattle.std.specs.Prelude.{true, [], ◌∷◌, refl}
use Rattle.model_rows.specs.Networks.{one_edge}
use Rattle.model_rows.proofs.Rows.{counts_are, births_are}
use Rattle.model_rows.proofs.only_latest_updates_are_cleaned.Goals as goal

pub returns-clause-birth : goal.returns-clause-birth
returns-clause-birth c = (births_are 2 true one_edge (0 ∷ 1 ∷ []) 4).1 (refl, refl)

pub returns-clause-counts : goal.returns-clause-counts
returns-clause-counts c =
    counts_are 2 true (1, ((0, 1), 3) ∷ []) ((0, ((0, 1), 2) ∷ []) ∷ (0, ((0, 1), 1) ∷ []) ∷ []) refl
