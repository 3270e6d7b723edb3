use Rattle.std.proofs.Common.{◌≡◌, subst, arith}
use Rattle.path_reports.specs.Spans.{AreBounds}
use Rattle.path_reports.proofs.Bounding.{spans_inside, span_at, diameter_done, radius_done}
use Rattle.path_reports.proofs.summaries.all_bounds.Goals as goal

pub bounds-spans-x : goal.bounds-spans-x
bounds-spans-x c =
    spans_inside c.args.version.now.graph c.spans.x c.args.spans.now c.requires
    (omega (arith, c.spans-test.true, c.vertices-x-end.ensures.vertices))

pub with_span-bounds-requires-clause-span : goal.with_span-bounds-requires-clause-span
with_span-bounds-requires-clause-span c =
    span_at c.args.version.now.graph c.spans.x c.args.spans.now _ c.requires
    (omega (arith, c.spans-test.true, c.vertices-x-end.ensures.vertices))

pub returns-clause-diameter : goal.returns-clause-diameter
returns-clause-diameter c =
    let e : c.spans.x ≡ c.args.version.now.graph.vertices =
    omega (arith, c.spans-test.false, c.spans.auto.x-end, c.vertices-x-end.ensures.vertices) in
    diameter_done c.args.version.now.graph c.spans.bounds c.vertices-x-end.ensures.graph
    (subst (λ k. AreBounds c.args.version.now.graph k c.spans.bounds) e c.spans.invariant)

pub returns-clause-radius : goal.returns-clause-radius
returns-clause-radius c =
    let e : c.spans.x ≡ c.args.version.now.graph.vertices =
    omega (arith, c.spans-test.false, c.spans.auto.x-end, c.vertices-x-end.ensures.vertices) in
    let all : AreBounds c.args.version.now.graph c.args.version.now.graph.vertices c.spans.bounds =
    subst (λ k. AreBounds c.args.version.now.graph k c.spans.bounds) e c.spans.invariant in
    radius_done c.args.version.now.graph c.spans.bounds.radius all.radius
