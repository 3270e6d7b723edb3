use Rattle.std.proofs.Common.{◌≡◌, ◌+◌, sym, subst, arith}
use Rattle.std.specs.Prelude.{slice_index}
use Rattle.path_reports.specs.Spans.{IsSpanBelow}
use Rattle.path_reports.proofs.Reaches.{span_starts, span_reached, span_missed, span_done}
use Rattle.path_reports.proofs.spans.span.Goals as goal

pub cells-init : goal.cells-init
cells-init c = span_starts c.args.version.now.graph c.args.x c.requires

pub cells-preserved-then-dist : goal.cells-preserved-then-dist
cells-preserved-then-dist c =
    let row = c.dist_row-dist-items.ensures in
    span_missed c.args.version.now.graph c.args.x c.cells.dist-index
    (slice_index c.dist_row-dist-items.result.now c.cells.dist-index) c.cells.span.far c.cells.span.reach
    c.vertices-vertices.ensures.graph (row.cells c.cells.dist-index (omega (arith, c.cells-test.true, row.size)))
    c.if-dist.true c.cells.invariant

pub cells-preserved : goal.cells-preserved
cells-preserved c =
    let row = c.dist_row-dist-items.ensures in
    let d = slice_index c.dist_row-dist-items.result.now c.cells.dist-index in
    subst (λ far. IsSpanBelow c.args.version.now.graph c.args.x (c.cells.dist-index + 1) far (c.cells.span.reach + 1))
    (sym c.max.ensures) (span_reached c.args.version.now.graph c.args.x c.cells.dist-index d c.cells.span.far
    c.cells.span.reach (row.cells c.cells.dist-index (omega (arith, c.cells-test.true, row.size))) c.if-dist.false
    c.cells.invariant)

pub returns : goal.returns
returns c =
    let row = c.dist_row-dist-items.ensures in
    let e : c.cells.dist-index ≡ c.args.version.now.graph.vertices =
    omega (arith, c.cells-test.false, c.cells.auto.dist-index-end, row.size) in
    span_done c.args.version.now.graph c.args.x c.cells.span
    (subst (λ k. IsSpanBelow c.args.version.now.graph c.args.x k c.cells.span.far c.cells.span.reach) e
    c.cells.invariant)
