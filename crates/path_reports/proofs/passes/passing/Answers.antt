use Rattle.std.proofs.Common.{◌≡◌, ℕ, ◌*◌, ◌<◌, Option, ap, subst, ◌∙◌, arith}
use Rattle.std.specs.List.{AllZip}
use Rattle.rayon.specs.Numbers.{nat_range}
use Rattle.rayon.proofs.ToStd.{nat_range-All}
use Rattle.rayon.proofs.ListFacts.{AllZip-weaken}
use Rattle.path_reports.specs.Spans.{IsPassingPick}
use Rattle.path_reports.specs.declared.reports.Pair.{Pair}
use Rattle.path_reports.proofs.Passed.{passing_found}
use Rattle.path_reports.proofs.passes.passing.Goals as goal

pub collect-found-requires-clause-ready : goal.collect-found-requires-clause-ready
collect-found-requires-clause-ready g c κs within =
    let ends = c.into_par_iter.ensures in
    let n = c.args.version.now.graph.vertices in
    let size = ap (λ (m : ℕ). m * m) c.vertices-n.ensures.vertices in
    let inside =
    nat_range-All (λ x. x < n * n) 0 (c.vertices-n.result * c.vertices-n.result)
    (λ x low high. omega (arith, high, size)) in
    rw (c.filter_map.ensures.base, c.filter_map.ensures.f, ends.0, ends.1) (λ k d lt. (inside k d lt, λ y p. tt))

pub returns : goal.returns
returns g c =
    let h = c.in-Ok.ensures in
    let i = c.into_par_iter.ensures in
    let n = c.vertices-n.ensures.vertices in
    let start = ap (λ b. b.start) c.filter_map.ensures.base ∙ i.0 in
    let end = ap (λ b. b.end) c.filter_map.ensures.base ∙ i.1 in
    let src : h.1.0 ≡ nat_range 0 (c.vertices-n.result * c.vertices-n.result) =
    h.1.2 ∙ (λ k. nat_range (start k) (end k)) in
    let Q : ℕ → Option Pair → Type 0 = λ k o. IsPassingPick c.args.version.now.graph c.args.v k o in
    let all : AllZip Q h.1.0 h.1.1 =
    AllZip-weaken _ Q (λ k o p. subst (λ f. IsPassingPick f.0.now.graph f.1.now k o) c.filter_map.ensures.f p) h.1.0
    h.1.1 h.1.3 in
    rw (c.new.ensures, h.2, h.1.4) (passing_found c.args.version.now.graph c.args.v (c.vertices-n.ensures.graph.some)
    (c.vertices-n.result * c.vertices-n.result) h.1.0 h.1.1 (ap (λ (m : ℕ). m * m) n) src all)
