use Rattle.std.proofs.Common.{◌≡◌, suc, ◌+◌, refl, subst, arith}
use Rattle.load_run.specs.Rows.{TableDistancesAre}
use Rattle.load_run.proofs.Summing.{table_none, table_more, table_whole}
use Rattle.load_run.proofs.distances.count_distances.Goals as goal

pub rows-init : goal.rows-init
rows-init c = table_none _ _ _ refl refl

pub rows-preserved : goal.rows-preserved
rows-preserved c =
    let one : suc c.rows.x ≡ c.rows.x + 1 = omega arith in
    subst (λ k. TableDistancesAre c.args.stated.now k (c.rows.all.pairs + c.row_distances-row.result.pairs)
    (c.rows.all.sum + c.row_distances-row.result.sum)) one
    (table_more _ _ _ _ _ _ _ _ c.rows.invariant c.vertices-x-end.ensures.range.range.graph.most
    c.row_distances-row.ensures.row refl refl)

pub returns : goal.returns
returns c =
    let s = c.args.stated.now in
    let end : c.rows.x ≡ s.graph.vertices =
    omega (arith, c.rows-test.false, c.rows.auto.x-end, c.vertices-x-end.ensures.vertices) in
    table_whole s c.rows.all.pairs c.rows.all.sum c.vertices-x-end.ensures.range.range
    (subst (λ k. TableDistancesAre s k c.rows.all.pairs c.rows.all.sum) end c.rows.invariant)
