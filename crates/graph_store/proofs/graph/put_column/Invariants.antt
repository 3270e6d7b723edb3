use Rattle.std.proofs.Common.{length}
use Rattle.graph_store.specs.Rows.{HasColumn}
use Rattle.graph_store.proofs.graph.put_column.Given as goal

abbrev pub invariant-loop-u : goal.invariant-loop-u
invariant-loop-u l = HasColumn (length l.column) l.number l.u l.column l.initial.cells l.cells
