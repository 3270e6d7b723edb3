use Rattle.std.proofs.Common.{refl, sym, ◌∙◌, ap, subst}
use Rattle.std.specs.Prelude.{Some, slice_index_or}
use Rattle.path_reports.specs.Reports.{IsCentral}
use Rattle.path_reports.specs.declared.reports.Span.{Span}
use Rattle.path_reports.proofs.Bounding.{spans_inside, span_at, central_if, central_only_whole, central_only_near}
use Rattle.path_reports.proofs.summaries.central_at.Goals as goal

abbrev none : Span
none = record { far = 0; reach = 0 }

pub bounds-spans-x : goal.bounds-spans-x
bounds-spans-x c = spans_inside c.args.version.now.graph c.args.x c.args.spans.now c.requires.spans c.requires.inside

pub returns-then-span-vertices : goal.returns-then-span-vertices
returns-then-span-vertices c =
    λ a same central. central_only_whole c.args.version.now.graph c.args.x c.vertices.result
    (slice_index_or c.args.spans.now c.args.x none) c.args.radius c.vertices.ensures.vertices
    (span_at c.args.version.now.graph c.args.x c.args.spans.now none c.requires.spans c.requires.inside)
    c.if-span-vertices.true (subst (IsCentral c.args.version.now.graph c.args.radius) same central)

pub returns-then-span-radius : goal.returns-then-span-radius
returns-then-span-radius c =
    λ a same central. central_only_near c.args.version.now.graph c.args.x c.in_ok-radius.radius
    (slice_index_or c.args.spans.now c.args.x none) c.args.radius
    (span_at c.args.version.now.graph c.args.x c.args.spans.now none c.requires.spans c.requires.inside)
    c.in_ok-radius.was c.if-span-radius.true (subst (IsCentral c.args.version.now.graph c.args.radius) same central)

pub returns : goal.returns
returns c = (
  refl,
  central_if c.args.version.now.graph c.args.x c.vertices.result
      (slice_index_or c.args.spans.now c.args.x none) c.args.radius c.vertices.ensures.vertices c.requires.inside
      (span_at c.args.version.now.graph c.args.x c.args.spans.now none c.requires.spans c.requires.inside)
      c.if-span-vertices.false (c.in_ok-radius.was ∙ ap Some (sym c.if-span-radius.false)),
)
