use Rattle.graph_store.specs.Rows.{HasRowsUpto}
use Rattle.graph_store.proofs.graph.put_rows.Given as goal

abbrev pub invariant-rows : goal.invariant-rows
invariant-rows l = HasRowsUpto l.m l.n l.u 0 l.rows l.wide

abbrev pub invariant-cells : goal.invariant-cells
invariant-cells l = HasRowsUpto l.m l.n l.u l.v l.rows l.wide
