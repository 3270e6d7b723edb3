use Rattle.std.proofs.Common.{◌*◌, arith}
use Rattle.graph_store.proofs.Graphs.{graph_of-no_cells, empty_rows}
use Rattle.graph_store.proofs.graph.Graph.new.Goals as goal

pub invariant_of-result : goal.invariant_of-result
invariant_of-result c =
    rw c.in_ok-cells.ensures (empty_rows c.args.n (record { some = omega arith; most = omega arith }))

pub returns-clause-ok : goal.returns-clause-ok
returns-clause-ok c = rw c.in_ok-cells.ensures (graph_of-no_cells c.args.n (c.args.n * c.args.n))

pub returns-clause-graph : goal.returns-clause-graph
returns-clause-graph c =
    rw c.in_ok-cells.ensures (empty_rows c.args.n (record { some = omega arith; most = omega arith })).graph
