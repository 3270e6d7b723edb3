use Rattle.std.proofs.Common.{refl}
use Rattle.weight_classes.specs.Inside.{cell_of}
use Rattle.weight_classes.proofs.buckets.cell.Goals as goal

pub returns-clause-is : goal.returns-clause-is
unfolding cell_of
returns-clause-is c = refl
