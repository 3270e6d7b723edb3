use Rattle.std.proofs.Common.{◌≡◌, ℕ, ◌<◌, ap, subst, ◌∙◌, arith}
use Rattle.std.specs.List.{AllZip}
use Rattle.rayon.specs.Numbers.{nat_range}
use Rattle.rayon.proofs.ToStd.{nat_range-All}
use Rattle.rayon.proofs.ListFacts.{IfOk-then, AllZip-weaken}
use Rattle.path_reports.specs.Reports.{IsSpan}
use Rattle.path_reports.specs.declared.reports.Span.{Span}
use Rattle.path_reports.proofs.spans.all_spans.Goals as goal

pub collect-requires-clause-ready : goal.collect-requires-clause-ready
collect-requires-clause-ready g c κs within =
    let ends = c.into_par_iter.ensures in
    let inside =
    nat_range-All (λ x. x < c.args.version.now.graph.vertices) 0 c.vertices.result
    (λ x low high. omega (arith, high, c.vertices.ensures.vertices)) in
    rw (c.map.ensures.base, c.with_min_len.ensures.base, c.map.ensures.f, ends.0, ends.1)
    (λ k d lt. (inside k d lt, λ y p. tt))

pub returns : goal.returns
returns g c = IfOk-then c.collect.result _ _ c.collect.ensures (λ v h.
    let base = c.map.ensures.base in
    let m = c.with_min_len.ensures in
    let i = c.into_par_iter.ensures in
    let start = ap (λ b. b.base.start) base ∙ (ap (λ b. b.start) m.base ∙ i.0) in
    let end = ap (λ b. b.base.end) base ∙ (ap (λ b. b.end) m.base ∙ i.1) in
    let src : h.1.0 ≡ nat_range 0 c.args.version.now.graph.vertices =
    h.1.1 ∙ (λ k. nat_range (start k) (end k)) ∙ ap (nat_range 0) c.vertices.ensures.vertices in
    let Q : ℕ → Span → Type 0 = λ x s. IsSpan c.args.version.now.graph x s in
    let all : AllZip Q h.1.0 h.0 =
    AllZip-weaken _ Q (λ x s p. subst (λ f. IsSpan f.0.now.graph x s) c.map.ensures.f p) h.1.0 h.0 h.1.2 in
    rw (h.2, ← src) all)
