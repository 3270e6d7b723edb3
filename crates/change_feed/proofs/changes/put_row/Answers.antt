use Rattle.std.proofs.Common.{arith}
use Rattle.change_feed.proofs.Differing.{equal_cells, unequal_cells, row_same, row_other}
use Rattle.change_feed.proofs.changes.put_row.Goals as goal

pub cells-preserved-then-eq : goal.cells-preserved-then-eq
cells-preserved-then-eq c =
    row_same c.args.last.now.graph c.args.next.now.graph c.requires.same c.args.x c.cells.y c.of-old.result.dist.now
    c.of-old.result.hops.now c.of-old.result.next.now c.of-new.result.dist.now c.of-new.result.hops.now
    c.of-new.result.next.now c.cell.result c.cell-cell.result c.cells.cells.items (record {
      from = c.requires.inside;
      to = omega (arith, c.cells-test.true, c.vertices-y-end.ensures.vertices);
      old_rows = c.of-old.ensures;
      new_rows = c.of-new.ensures;
      old_x = c.cell.ensures.from;
      old_y = c.cell.ensures.to;
      old_d = c.cell.ensures.dist;
      old_h = c.cell.ensures.hops;
      old_z = c.cell.ensures.next;
      new_x = c.cell-cell.ensures.from;
      new_y = c.cell-cell.ensures.to;
      new_d = c.cell-cell.ensures.dist;
      new_h = c.cell-cell.ensures.hops;
      new_z = c.cell-cell.ensures.next;
    }) (equal_cells c.cell-cell.result c.cell.result c.if-eq.ensures) c.cells.invariant

pub cells-preserved : goal.cells-preserved
cells-preserved c =
    rw c.in_ok-push.ensures.items (row_other c.args.last.now.graph c.args.next.now.graph c.requires.same c.args.x
    c.cells.y c.of-old.result.dist.now c.of-old.result.hops.now c.of-old.result.next.now c.of-new.result.dist.now
    c.of-new.result.hops.now c.of-new.result.next.now c.cell.result c.cell-cell.result c.cells.cells.items (record {
      from = c.requires.inside;
      to = omega (arith, c.cells-test.true, c.vertices-y-end.ensures.vertices);
      old_rows = c.of-old.ensures;
      new_rows = c.of-new.ensures;
      old_x = c.cell.ensures.from;
      old_y = c.cell.ensures.to;
      old_d = c.cell.ensures.dist;
      old_h = c.cell.ensures.hops;
      old_z = c.cell.ensures.next;
      new_x = c.cell-cell.ensures.from;
      new_y = c.cell-cell.ensures.to;
      new_d = c.cell-cell.ensures.dist;
      new_h = c.cell-cell.ensures.hops;
      new_z = c.cell-cell.ensures.next;
    }) (unequal_cells c.cell-cell.result c.cell.result c.if-eq.ensures) c.cells.invariant)
