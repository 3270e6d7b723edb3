use Rattle.std.proofs.Common.{◌≡◌, length, subst, arith}
use Rattle.graph_store.specs.Rows.{HasColumn}
use Rattle.graph_store.proofs.Cells.{column_none, column_more}
use Rattle.graph_store.proofs.graph.put_column.Goals as goal

pub loop-u-init : goal.loop-u-init
loop-u-init c = column_none _ _ _ _

pub loop-u-preserved : goal.loop-u-preserved
loop-u-preserved c = column_more _ _ _ _ _ _ c.requires.inside c.loop-u-test.true c.requires.size c.loop-u.invariant

pub returns : goal.returns
returns c =
    let end : c.loop-u.u ≡ length c.args.column.now = omega arith in
    subst (λ k. HasColumn (length c.args.column.now) c.args.number k c.args.column.now c.args.cells.now c.loop-u.cells)
    end c.loop-u.invariant
