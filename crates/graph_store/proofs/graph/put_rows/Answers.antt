use Rattle.std.proofs.Common.{ℕ, ◌≡◌, ◌+◌, ◌*◌, Option, slice_set, sym, subst, arith}
use Rattle.graph_store.specs.Rows.{HasRowsUpto}
use Rattle.graph_store.proofs.Wide.{rows_none, rows_more, row_done}
use Rattle.graph_store.proofs.graph.put_rows.Goals as goal

pub rows-init : goal.rows-init
rows-init c = rows_none _ _ _ _ c.requires.wide_size

pub cells-preserved : goal.cells-preserved
cells-preserved c =
    let F : Option ℕ → Type 0 =
    λ w. HasRowsUpto c.args.m c.args.n c.rows.u (c.cells.v + 1) c.args.rows.now
    (slice_set c.cells.wide (c.rows.u * c.args.m + c.cells.v) w) in
    subst F (sym c.cell_of.ensures) (rows_more c.args.m c.args.n c.rows.u c.cells.v c.args.rows.now c.cells.wide
    c.rows-test.true c.cells-test.true c.cells.invariant)

pub rows-preserved : goal.rows-preserved
rows-preserved c =
    let end : c.cells.v ≡ c.args.m = omega arith in
    row_done _ _ _ _ _ (subst (λ (k : ℕ). HasRowsUpto c.args.m c.args.n c.rows.u k c.args.rows.now c.cells.wide) end
    c.cells.invariant)

pub returns : goal.returns
returns c =
    let end : c.rows.u ≡ c.args.m = omega arith in
    subst (λ (k : ℕ). HasRowsUpto c.args.m c.args.n k 0 c.args.rows.now c.rows.wide) end c.rows.invariant
