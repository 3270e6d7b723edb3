use Rattle.load_run.specs.Rows.{TableDistancesAre}
use Rattle.load_run.proofs.distances.count_distances.Given as goal

abbrev pub invariant-rows : goal.invariant-rows
invariant-rows l = TableDistancesAre l.stated l.x l.all.pairs l.all.sum
