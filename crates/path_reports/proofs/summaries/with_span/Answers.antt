use Rattle.path_reports.proofs.Bounding.{with_part, with_first, with_lesser}
use Rattle.path_reports.proofs.summaries.with_span.Goals as goal

pub returns-then-span-vertices : goal.returns-then-span-vertices
returns-then-span-vertices c =
    rw c.max-diameter.ensures (with_part c.args.version.now.graph c.args.x c.vertices.result c.args.bounds c.args.span
    c.vertices.ensures.vertices c.requires.span c.if-span-vertices.true c.requires.bounds)

pub returns-in-Some : goal.returns-in-Some
returns-in-Some c =
    rw (c.max-diameter.ensures, c.min.ensures)
    (with_lesser c.args.version.now.graph c.args.x c.vertices.result c.in-Some.radius c.args.bounds c.args.span
    c.vertices.ensures.vertices c.requires.inside c.requires.span c.if-span-vertices.false c.in-Some.is
    c.requires.bounds)

pub returns-in-None : goal.returns-in-None
returns-in-None c =
    rw c.max-diameter.ensures (with_first c.args.version.now.graph c.args.x c.vertices.result c.args.bounds c.args.span
    c.vertices.ensures.vertices c.requires.inside c.requires.span c.if-span-vertices.false c.in-None.is
    c.requires.bounds)
