use Rattle.std.proofs.Common.{◌≡◌, ℕ, ◌<◌, Option, ap, subst, ◌∙◌, arith}
use Rattle.std.specs.List.{AllZip}
use Rattle.rayon.specs.Numbers.{nat_range}
use Rattle.rayon.proofs.ToStd.{nat_range-All}
use Rattle.rayon.proofs.ListFacts.{IfOk-then, AllZip-weaken}
use Rattle.path_reports.specs.Spans.{IsCentralPick}
use Rattle.path_reports.proofs.Passed.{centre_found}
use Rattle.path_reports.proofs.summaries.central.Goals as goal

pub collect-requires-clause-ready : goal.collect-requires-clause-ready
collect-requires-clause-ready g c κs within =
    let ends = c.into_par_iter.ensures in
    let inside =
    nat_range-All (λ x. x < c.args.version.now.graph.vertices) 0 c.vertices.result
    (λ x low high. omega (arith, high, c.vertices.ensures.vertices)) in
    rw (c.filter_map.ensures.base, c.filter_map.ensures.f, ends.0, ends.1)
    (λ k d lt. ((inside k d lt, c.requires), λ y p. tt))

pub returns : goal.returns
returns g c = IfOk-then c.collect.result _ _ c.collect.ensures (λ v h.
    let i = c.into_par_iter.ensures in
    let start = ap (λ b. b.start) c.filter_map.ensures.base ∙ i.0 in
    let end = ap (λ b. b.end) c.filter_map.ensures.base ∙ i.1 in
    let src : h.1.0 ≡ nat_range 0 c.vertices.result = h.1.2 ∙ (λ k. nat_range (start k) (end k)) in
    let Q : ℕ → Option ℕ → Type 0 = λ x o. IsCentralPick c.args.version.now.graph c.args.radius x o in
    let all : AllZip Q h.1.0 h.1.1 =
    AllZip-weaken _ Q (λ x o p. subst (λ f. IsCentralPick f.0.now.graph f.2.now x o) c.filter_map.ensures.f p) h.1.0
    h.1.1 h.1.3 in
    rw (h.2, h.1.4) (centre_found c.args.version.now.graph c.args.radius c.vertices.result h.1.0 h.1.1
    c.vertices.ensures.vertices src all))
