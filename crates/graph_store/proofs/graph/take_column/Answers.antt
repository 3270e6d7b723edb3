use Rattle.std.proofs.Common.{◌≡◌, length, subst, arith, refl}
use Rattle.graph_store.specs.Rows.{IsColumn}
use Rattle.graph_store.proofs.Cells.{is_column_none, is_column_more}
use Rattle.graph_store.proofs.graph.take_column.Goals as goal

pub loop-u-init : goal.loop-u-init
loop-u-init c = is_column_none _ _ _ _ refl

pub loop-u-preserved : goal.loop-u-preserved
loop-u-preserved c = is_column_more _ _ _ _ _ c.loop-u-test.true c.loop-u.invariant

pub returns : goal.returns
returns c =
    let end : c.loop-u.u ≡ length c.args.column.now = omega arith in
    subst (λ k. IsColumn (length c.args.column.now) c.args.number k c.args.cells.now c.loop-u.column) end
    c.loop-u.invariant
