use Rattle.load_run.specs.Rows.{RowDistancesAre}
use Rattle.load_run.proofs.distances.row_distances.Given as goal

abbrev pub invariant-cells : goal.invariant-cells
invariant-cells l = RowDistancesAre l.stated l.x l.y l.row.pairs l.row.sum
