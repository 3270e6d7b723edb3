use Rattle.std.specs.Prelude.{false, refl}
use Rattle.std.proofs.Common.{arith}
use Rattle.model_rows.proofs.Rows.{opening_counts}
use Rattle.model_rows.proofs.before_any_update.Goals as goal

pub returns-clause-birth : goal.returns-clause-birth
returns-clause-birth c = ((0, omega arith, refl), refl)

pub returns-clause-counts : goal.returns-clause-counts
returns-clause-counts c = opening_counts 1 false
