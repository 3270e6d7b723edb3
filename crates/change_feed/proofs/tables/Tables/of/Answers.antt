use Rattle.std.proofs.Common.{◌≡◌, subst, arith}
use Rattle.change_feed.specs.Lent.{AreRowsBelow}
use Rattle.change_feed.proofs.Celled.{rows_more, rows_are_tables}
use Rattle.change_feed.proofs.tables.Tables.of.Goals as goal

pub rows-preserved : goal.rows-preserved
rows-preserved c =
    rw (
      c.in_ok-extend_from_slice.ensures.items,
      c.in_ok-extend_from_slice-2.ensures.items,
      c.in_ok-extend_from_slice-3.ensures.items,
    )
    (rows_more c.args.version.now.graph c.rows.x c.rows.dist.items c.rows.hops.items c.rows.next.items
    c.of-rows.result.dist.now c.of-rows.result.hops.now c.of-rows.result.next.now c.rows.invariant c.of-rows.ensures)

pub returns-clause-tables : goal.returns-clause-tables
returns-clause-tables c =
    let v = c.args.version.now in
    let e : c.rows.x ≡ v.graph.vertices =
    omega (arith, c.rows-test.false, c.rows.auto.x-end, c.vertices-vertices.ensures.vertices) in
    let t = rows_are_tables v c.rows.dist.items c.rows.hops.items c.rows.next.items
    (subst (λ k. AreRowsBelow v.graph k c.rows.dist.items c.rows.hops.items c.rows.next.items) e c.rows.invariant)
    in
    record { number = c.number.ensures; sizes = t.sizes; cells = t.cells }
