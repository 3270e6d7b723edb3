use Rattle.graph_store.specs.Rows.{IsColumn}
use Rattle.graph_store.proofs.graph.take_column.Given as goal

abbrev pub invariant-loop-u : goal.invariant-loop-u
invariant-loop-u l = IsColumn l.n l.number l.u l.cells l.column
