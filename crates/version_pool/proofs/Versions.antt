-- The versions of a plan, how many vertices they have, and the one behind each: for `Pool::new`, `Publisher::publish`
-- and
-- the tests.
use Rattle.std.specs.Prelude.{◌≡◌, ℕ, zero, suc, ◌+◌, ◌-◌, ◌<◌, List, [], ◌∷◌, take, Some, slice_get, refl}
use Rattle.std.proofs.Common.{sym, ◌∙◌, ap, subst, arith}
use Rattle.std.proofs.lemmas.Option.{get_or_from_slice_get, slice_get_within}
use Rattle.apsp_model.specs.Graph.{Graph}
use Rattle.apsp_model.specs.Star.{Star, star_of}
use Rattle.graph_store.specs.Plan.{Plan, IsPlan, IsVersionOf, graph_after, hi_of}

after : (g : Graph) (stars : List Star) → (graph_after g stars).vertices ≡ g.vertices
after g [] = refl
after g (s ∷ stars) = after (star_of g s) stars

pub vertices_of : (p : Plan) (k : ℕ) (g : Graph) → IsVersionOf p k g → g.vertices ≡ p.start.vertices
vertices_of p k g is = ap (λ (h : Graph). h.vertices) is.graph ∙ after p.start (take (k - p.lo) p.stars)

pub star_fits : (p : Plan) (i : ℕ) (s : Star) → IsPlan p → slice_get p.stars i ≡ Some s → s.vertices ≡ p.start.vertices
star_fits p i s is at =
    subst (λ (t : Star). t.vertices ≡ p.start.vertices) (get_or_from_slice_get p.stars i s s at)
    (is.vertices i s (slice_get_within p.stars i s at))

one_more : (g : Graph) (stars : List Star) (k : ℕ) (s : Star) → slice_get stars k ≡ Some s
    → graph_after g (take (suc k) stars) ≡ star_of (graph_after g (take k stars)) s
one_more g [] k s e = cc
one_more g (t ∷ stars) zero s e = let same : t ≡ s = cc in ap (star_of g) same
one_more g (t ∷ stars) (suc k) s e = one_more (star_of g t) stars k s e

pub next_version : (p : Plan) (k : ℕ) (g : Graph) (s : Star) → IsVersionOf p k g → k < hi_of p
    → slice_get p.stars (k + 1 - p.lo - 1) ≡ Some s → IsVersionOf p (k + 1) (star_of g s)
next_version p k g s is more at =
    let low = is.from_lo in
    let place : k + 1 - p.lo - 1 ≡ k - p.lo = omega (arith, low) in
    let count : k + 1 - p.lo ≡ suc (k - p.lo) = omega (arith, low) in
    let there : slice_get p.stars (k - p.lo) ≡ Some s = ap (slice_get p.stars) (sym place) ∙ at in record {
      from_lo = omega (arith, low);
      to_hi = omega (arith, more);
      graph = ap (λ h. star_of h s) is.graph
          ∙ (sym (one_more p.start p.stars (k - p.lo) s there)
          ∙ ap (λ (n : ℕ). graph_after p.start (take n p.stars)) (sym count));
    }
