-- Stars that are drawn edge by edge: for `draw_star`, `draw_out`, `draw_in` and `put_in`.
use Rattle.std.specs.Prelude.{◌≡◌, ◌≢◌, ℕ, zero, suc, ◌+◌, ◌-◌, ◌<◌, ◌%◌, Bool, true, false, cond, ◌==◌, ◌&&◌, nat_lt, if◌then◌else◌, Option, Some, None, refl}
use Rattle.std.specs.FinMap as map
use Rattle.std.proofs.Common.{sym, ◌∙◌, ap, subst, inl, inr, arith}
use Rattle.std.proofs.lemmas.Bool.{cases_eq}
use Rattle.std.proofs.lemmas.Bool.Decides.{nat_tests}
use Rattle.apsp_model.specs.Graph.{pair_cmp}
use Rattle.apsp_model.specs.Star.{Star}
use Rattle.apsp_model.proofs.Stars.{pairs_total}
use Rattle.graph_store.specs.Edges.{IsWeight, first_refusal, with_maybe_edge}
use Rattle.graph_store.specs.Making.{no_star}
use Rattle.graph_store.proofs.Graphs.{same_star}
use Rattle.graph_store.proofs.Tables.{same_pair, get-map_of}
use Rattle.load_run.specs.Draws.{draw, drawn, drawn_weight, others_below, drawn_edge, drawn_star, draws_of_star}
use Rattle.load_run.specs.Stars.{is_done, out_below, HasOut, HasBoth}

-- ---- numbers

pub drawn_behind_first : (s k : ℕ) → drawn (draw s) k ≡ drawn s (suc k)
drawn_behind_first s zero = refl
drawn_behind_first s (suc k) = ap draw (drawn_behind_first s k)

pub drawn_chain : (s j k : ℕ) → drawn (drawn s j) k ≡ drawn s (j + k)
drawn_chain s j zero = ap (drawn s) (omega arith)
drawn_chain s j (suc k) =
    let next : suc (j + k) ≡ j + suc k = omega arith in
    ap draw (drawn_chain s j k) ∙ ap (drawn s) next

others_more : (v u : ℕ) → u ≢ v → others_below v (suc u) ≡ suc (others_below v u)
others_more v u apart = grind (arith, nat_tests)

others_same : (v u : ℕ) → u ≡ v → others_below v (suc u) ≡ others_below v u
others_same v u same = grind (arith, nat_tests)

others_none : (v : ℕ) → others_below v 0 ≡ 0
others_none v = grind (arith, nat_tests)

others_all : (n v : ℕ) → v < n → others_below v n ≡ n - 1
others_all n v inside = grind (arith, nat_tests)

-- ---- one edge more

with_vertices : (s : Star) (q : ℕ × ℕ) (o : Option ℕ) → (with_maybe_edge s q o).vertices ≡ s.vertices
with_vertices s q None = refl
with_vertices s q (Some w) = refl

with_vertex : (s : Star) (q : ℕ × ℕ) (o : Option ℕ) → (with_maybe_edge s q o).vertex ≡ s.vertex
with_vertex s q None = refl
with_vertex s q (Some w) = refl

get_with : (s : Star) (u v a b : ℕ) (o : Option ℕ)
    → map.get (with_maybe_edge s (u, v) o).edges (a, b) ≡ (if a == u && b == v then o else map.get s.edges (a, b))
get_with s u v a b None =
    map.get-remove pairs_total s.edges (u, v) (a, b)
    ∙ ap (λ t. cond t None (map.get s.edges (a, b))) (same_pair a b u v)
get_with s u v a b (Some w) =
    map.get-insert pairs_total s.edges (u, v) w (a, b)
    ∙ ap (λ t. cond t (Some w) (map.get s.edges (a, b))) (same_pair a b u v)

-- no edge in place of none
pub without_none : (s : Star) (u v : ℕ) → map.get s.edges (u, v) ≡ None → s ≡ with_maybe_edge s (u, v) None
without_none s u v none =
    same_star s (with_maybe_edge s (u, v) None) refl refl (λ a b. at a b ∙ sym (get_with s u v a b None))
  where
    picked : (t : Bool) (o : Option ℕ) → o ≡ None → o ≡ (if t then None else o)
    picked true o e = e
    picked false o e = refl

    at : (a b : ℕ) → map.get s.edges (a, b) ≡ (if a == u && b == v then None else map.get s.edges (a, b))
    at a b = elim (cases_eq a u) [
      | inl here ↦ elim (cases_eq b v) [
        | inl there ↦
            let e : map.get s.edges (a, b) ≡ None = (λ i. map.get s.edges (here i, there i)) ∙ none in
            picked (a == u && b == v) (map.get s.edges (a, b)) e
        | inr other ↦ grind (arith, nat_tests)
      ]
      | inr other ↦ grind (arith, nat_tests)
    ]

-- an edge that may be put in
pub not_refused : (n v u w : ℕ) (o : Option ℕ) → u < n → u ≢ v → o ≡ None → IsWeight w → first_refusal n v o u w ≡ None
not_refused n v u w None inside apart none weight = grind (arith, nat_tests, weight)
not_refused n v u w (Some x) inside apart none weight = cc

-- ---- the edges from the vertex

pub out_start : (n v s : ℕ) (star : Star) → star ≡ no_star n v → HasOut n v s 0 star s
out_start n v s star is = record {
  vertices = ap (λ (t : Star). t.vertices) is;
  vertex = ap (λ (t : Star). t.vertex) is;
  place = ap (drawn s) (sym (others_none v));
  edges = λ a b. ap (λ (t : Star). map.get t.edges (a, b)) is ∙ map.get-empty pair_cmp (a, b)
      ∙ none a b (drawn_weight (drawn s (1 + others_below v b)));
}
  where
    none : (a b : ℕ) (o : Option ℕ) → None ≡ (if a == v && is_done v 0 b then o else None)
    none a b o = grind (arith, nat_tests)

pub out_step : (n v s u : ℕ) (star : Star) (d : ℕ) (new : Star) (last : ℕ) → HasOut n v s u star d → u ≢ v
    → new ≡ with_maybe_edge star (star.vertex, u) (drawn_weight (draw d)) → last ≡ draw d
    → HasOut n v s (suc u) new last
out_step n v s u star d new last h apart is place =
    let made : Star = with_maybe_edge star (star.vertex, u) (drawn_weight (draw d)) in
    let next : draw d ≡ drawn s (others_below v (suc u)) =
    ap draw h.place ∙ ap (drawn s) (sym (others_more v u apart)) in
    record {
      vertices =
          ap (λ (t : Star). t.vertices) is ∙ with_vertices star (star.vertex, u) (drawn_weight (draw d)) ∙ h.vertices;
      vertex = ap (λ (t : Star). t.vertex) is ∙ with_vertex star (star.vertex, u) (drawn_weight (draw d)) ∙ h.vertex;
      place = place ∙ next;
      edges = λ a b. ap (λ (t : Star). map.get t.edges (a, b)) is
          ∙ get_with star star.vertex u a b (drawn_weight (draw d))
          ∙ ap (λ c. if a == c && b == u then drawn_weight (draw d) else map.get star.edges (a, b)) h.vertex
          ∙ ap (λ o. if a == v && b == u then drawn_weight (draw d) else o) (h.edges a b)
          ∙ at a b;
    }
  where
    flat : (a b : ℕ) (p : Option ℕ) → b ≡ u
        → (if a == v && b == u then p else (if a == v && is_done v u b then p else None)) ≡
        (if a == v && is_done v (suc u) b then p else None)
    flat a b p here = grind (arith, nat_tests, apart)

    new_cell : (a b : ℕ) (o p : Option ℕ) → b ≡ u → o ≡ p
        → (if a == v && b == u then o else (if a == v && is_done v u b then p else None)) ≡
        (if a == v && is_done v (suc u) b then p else None)
    new_cell a b o p here e =
        ap (λ x. if a == v && b == u then x else (if a == v && is_done v u b then p else None)) e ∙ flat a b p here

    old_cell : (a b : ℕ) (o p : Option ℕ) → b ≢ u
        → (if a == v && b == u then o else (if a == v && is_done v u b then p else None)) ≡
        (if a == v && is_done v (suc u) b then p else None)
    old_cell a b o p other = grind (arith, nat_tests)

    at : (a b : ℕ) → (if a == v && b == u then drawn_weight (draw d) else out_below v s u a b) ≡ out_below v s (suc u) a
        b
    at a b = elim (cases_eq b u) [
      | inl here ↦
          let one : suc (others_below v u) ≡ 1 + others_below v u = omega arith in
          let e : drawn_weight (draw d) ≡ drawn_weight (drawn s (1 + others_below v b)) =
          ap (λ x. drawn_weight (draw x)) h.place ∙ ap (λ k. drawn_weight (drawn s k)) one
          ∙ ap (λ k. drawn_weight (drawn s (1 + others_below v k))) (sym here) in
          new_cell a b (drawn_weight (draw d)) (drawn_weight (drawn s (1 + others_below v b))) here e
      | inr other ↦ old_cell a b (drawn_weight (draw d)) (drawn_weight (drawn s (1 + others_below v b))) other
    ]

pub out_skip : (n v s u : ℕ) (star : Star) (d : ℕ) (new : Star) (last : ℕ) → HasOut n v s u star d → u ≡ v → new ≡ star
    → last ≡ d → HasOut n v s (suc u) new last
out_skip n v s u star d new last h same is place = record {
  vertices = ap (λ (t : Star). t.vertices) is ∙ h.vertices;
  vertex = ap (λ (t : Star). t.vertex) is ∙ h.vertex;
  place = place ∙ h.place ∙ ap (drawn s) (sym (others_same v u same));
  edges = λ a b. ap (λ (t : Star). map.get t.edges (a, b)) is ∙ h.edges a b
      ∙ at a b (drawn_weight (drawn s (1 + others_below v b)));
}
  where
    at : (a b : ℕ) (p : Option ℕ) → (if a == v && is_done v u b then p else None) ≡
        (if a == v && is_done v (suc u) b then p else None)
    at a b p = grind (arith, nat_tests, same)

-- ---- the edges to the vertex

pub both_start : (n v s : ℕ) (star : Star) (d : ℕ) → HasOut n v s n star d → v < n → HasBoth n v s 0 star d
both_start n v s star d h inside = record {
  vertices = h.vertices;
  vertex = h.vertex;
  place = h.place ∙ ap (drawn s) (others_all n v inside ∙ sum);
  edges = λ a b. h.edges a b ∙ none a b (drawn_weight (drawn s (1 + ((n - 1) + others_below v a))))
      (out_below v s n a b);
}
  where
    sum : n - 1 ≡ (n - 1) + others_below v 0
    sum = omega (arith, others_none v)

    none : (a b : ℕ) (o p : Option ℕ) → p ≡ (if b == v && is_done v 0 a then o else p)
    none a b o p = grind (arith, nat_tests)

-- there is no edge yet from a vertex that is not done
pub none_yet : (n v s u : ℕ) (star : Star) (d : ℕ) → HasBoth n v s u star d → u ≢ v
    → map.get star.edges (u, star.vertex) ≡ None
none_yet n v s u star d h apart =
    h.edges u star.vertex ∙ at star.vertex h.vertex (drawn_weight (drawn s (1 + ((n - 1) + others_below v u))))
    (drawn_weight (drawn s (1 + others_below v star.vertex)))
  where
    at : (b : ℕ) → b ≡ v → (o p : Option ℕ)
        → (if b == v && is_done v u u then o else (if u == v && is_done v n b then p else None)) ≡ None
    at b e o p = grind (arith, nat_tests, apart)

pub both_step : (n v s u : ℕ) (star : Star) (d : ℕ) (new : Star) (last : ℕ) → HasBoth n v s u star d → u ≢ v
    → new ≡ with_maybe_edge star (u, star.vertex) (drawn_weight (draw d)) → last ≡ draw d
    → HasBoth n v s (suc u) new last
both_step n v s u star d new last h apart is place =
    let next : draw d ≡ drawn s ((n - 1) + others_below v (suc u)) = ap draw h.place ∙ ap (drawn s) more in
    record {
      vertices =
          ap (λ (t : Star). t.vertices) is ∙ with_vertices star (u, star.vertex) (drawn_weight (draw d)) ∙ h.vertices;
      vertex = ap (λ (t : Star). t.vertex) is ∙ with_vertex star (u, star.vertex) (drawn_weight (draw d)) ∙ h.vertex;
      place = place ∙ next;
      edges = λ a b. ap (λ (t : Star). map.get t.edges (a, b)) is
          ∙ get_with star u star.vertex a b (drawn_weight (draw d))
          ∙ ap (λ c. if a == u && b == c then drawn_weight (draw d) else map.get star.edges (a, b)) h.vertex
          ∙ ap (λ o. if a == u && b == v then drawn_weight (draw d) else o) (h.edges a b)
          ∙ at a b (out_below v s n a b);
    }
  where
    more : suc ((n - 1) + others_below v u) ≡ (n - 1) + others_below v (suc u)
    more = omega (arith, others_more v u apart)

    new_cell : (a b : ℕ) (p rest : Option ℕ) → a ≡ u
        → (if a == u && b == v then p else (if b == v && is_done v u a then p else rest)) ≡
        (if b == v && is_done v (suc u) a then p else rest)
    new_cell a b p rest here = grind (arith, nat_tests, apart)

    old_cell : (a b : ℕ) (o p rest : Option ℕ) → a ≢ u
        → (if a == u && b == v then o else (if b == v && is_done v u a then p else rest)) ≡
        (if b == v && is_done v (suc u) a then p else rest)
    old_cell a b o p rest other = grind (arith, nat_tests)

    at : (a b : ℕ) (rest : Option ℕ) → (if a == u && b == v then drawn_weight (draw d) else
        (if b == v && is_done v u a then drawn_weight (drawn s (1 + ((n - 1) + others_below v a))) else rest)) ≡
        (if b == v && is_done v (suc u) a then drawn_weight (drawn s (1 + ((n - 1) + others_below v a))) else rest)
    at a b rest = elim (cases_eq a u) [
      | inl here ↦
          let one : suc ((n - 1) + others_below v u) ≡ 1 + ((n - 1) + others_below v u) = omega arith in
          let e : drawn_weight (draw d) ≡ drawn_weight (drawn s (1 + ((n - 1) + others_below v a))) =
          ap (λ x. drawn_weight (draw x)) h.place ∙ ap (λ k. drawn_weight (drawn s k)) one
          ∙ ap (λ k. drawn_weight (drawn s (1 + ((n - 1) + others_below v k)))) (sym here) in
          ap (λ x. if a == u && b == v then x else
          (if b == v && is_done v u a then drawn_weight (drawn s (1 + ((n - 1) + others_below v a))) else rest)) e
          ∙ new_cell a b (drawn_weight (drawn s (1 + ((n - 1) + others_below v a)))) rest here
      | inr other ↦ old_cell a b (drawn_weight (draw d)) (drawn_weight (drawn s (1 + ((n - 1) + others_below v a))))
          rest other
    ]

pub both_skip : (n v s u : ℕ) (star : Star) (d : ℕ) (new : Star) (last : ℕ) → HasBoth n v s u star d → u ≡ v
    → new ≡ star → last ≡ d → HasBoth n v s (suc u) new last
both_skip n v s u star d new last h same is place = record {
  vertices = ap (λ (t : Star). t.vertices) is ∙ h.vertices;
  vertex = ap (λ (t : Star). t.vertex) is ∙ h.vertex;
  place = place ∙ h.place ∙ ap (λ k. drawn s ((n - 1) + k)) (sym (others_same v u same));
  edges = λ a b. ap (λ (t : Star). map.get t.edges (a, b)) is ∙ h.edges a b
      ∙ at a b (drawn_weight (drawn s (1 + ((n - 1) + others_below v a)))) (out_below v s n a b);
}
  where
    at : (a b : ℕ) (p rest : Option ℕ) → (if b == v && is_done v u a then p else rest) ≡
        (if b == v && is_done v (suc u) a then p else rest)
    at a b p rest = grind (arith, nat_tests, same)

-- ---- the whole star

both_cell : (n v a b : ℕ) (o p : Option ℕ) → v < n
    → (if b == v && is_done v n a then p else (if a == v && is_done v n b then o else None)) ≡
    (if nat_lt a n && nat_lt b n then (if a == v then (if b == v then None else o) else (if b == v then p else None))
    else None)
both_cell n v a b o p inside = grind (arith, nat_tests)

pub star_drawn : (n first : ℕ) (star : Star) (d : ℕ) → drawn first 1 % n < n
    → HasBoth n (drawn first 1 % n) (drawn first 1) n star d → star ≡ drawn_star n first
star_drawn n first star d inside h =
    let v = drawn first 1 % n in
    let s = drawn first 1 in
    same_star star (drawn_star n first) h.vertices h.vertex
    (λ a b. h.edges a b ∙ cells a b ∙ sym (get-map_of n (drawn_edge n first (drawn first 1 % n)) a b))
  where
    later : (k : ℕ) → drawn_weight (drawn (drawn first 1) k) ≡ drawn_weight (drawn first (1 + k))
    later k = ap drawn_weight (drawn_chain first 1 k)

    cells : (a b : ℕ) → (if b == drawn first 1 % n && is_done (drawn first 1 % n) n a then drawn_weight
        (drawn (drawn first 1) (1 + ((n - 1) + others_below (drawn first 1 % n) a))) else out_below (drawn first 1 % n)
        (drawn first 1) n a b) ≡ (if nat_lt a n && nat_lt b n then drawn_edge n first (drawn first 1 % n) a b else None)
    cells a b =
        let v = drawn first 1 % n in
        let same : 1 + (1 + ((n - 1) + others_below v a)) ≡ 2 + (n - 1) + others_below v a = omega arith in
        let out : 1 + (1 + others_below v b) ≡ 2 + others_below v b = omega arith in
        both_cell n v a b (drawn_weight (drawn (drawn first 1) (1 + others_below v b)))
        (drawn_weight (drawn (drawn first 1) (1 + ((n - 1) + others_below v a)))) inside
        ∙ (λ i. if nat_lt a n && nat_lt b n then
        (if a == v then (if b == v then None else
        (later (1 + others_below v b) ∙ ap (λ k. drawn_weight (drawn first k)) out) i) else
        (if b == v then (later (1 + ((n - 1) + others_below v a)) ∙ ap (λ k. drawn_weight (drawn first k)) same) i
        else None)) else None)

pub place_drawn : (n first : ℕ) (star : Star) (d : ℕ) → drawn first 1 % n < n
    → HasBoth n (drawn first 1 % n) (drawn first 1) n star d → d ≡ drawn first (draws_of_star n)
place_drawn n first star d inside h =
    let sum : 1 + ((n - 1) + others_below (drawn first 1 % n) n) ≡ draws_of_star n =
    omega (arith, others_all n (drawn first 1 % n) inside) in
    h.place ∙ drawn_chain first 1 ((n - 1) + others_below (drawn first 1 % n) n) ∙ ap (drawn first) sum

-- both loops, one behind the other
pub both_whole : (n first : ℕ) (made out both : Star) (number last mid end : ℕ) → made ≡ no_star n (number % n)
    → number ≡ draw first → last ≡ draw first → HasOut made.vertices made.vertex last made.vertices out mid
    → ((s : ℕ) → HasOut out.vertices out.vertex s out.vertices out mid
    → HasBoth out.vertices out.vertex s out.vertices both end)
    → HasBoth n (drawn first 1 % n) (drawn first 1) n both end
both_whole n first made out both number last mid end is drawn_is last_is h f =
    let v = drawn first 1 % n in
    let size : made.vertices ≡ n = ap (λ (t : Star). t.vertices) is in
    let here : made.vertex ≡ v = ap (λ (t : Star). t.vertex) is ∙ ap (λ k. k % n) drawn_is in
    let a : HasOut n made.vertex last n out mid = subst (λ k. HasOut k made.vertex last k out mid) size h in
    let b : HasOut n v last n out mid = subst (λ k. HasOut n k last n out mid) here a in
    let c : HasOut n v (drawn first 1) n out mid = subst (λ k. HasOut n v k n out mid) last_is b in
    let d : HasOut out.vertices v (drawn first 1) out.vertices out mid =
    subst (λ k. HasOut k v (drawn first 1) k out mid) (sym c.vertices) c in
    let e : HasOut out.vertices out.vertex (drawn first 1) out.vertices out mid =
    subst (λ k. HasOut out.vertices k (drawn first 1) out.vertices out mid) (sym c.vertex) d in
    subst (λ k. HasBoth n k (drawn first 1) n both end) c.vertex
    (subst (λ k. HasBoth k out.vertex (drawn first 1) k both end) c.vertices (f (drawn first 1) e))

-- what the first loop leaves, by what it leaves
pub out_again : (n v s : ℕ) (out : Star) (mid : ℕ) → HasOut n v s n out mid
    → HasOut out.vertices out.vertex s out.vertices out mid
out_again n v s out mid h =
    subst (λ k. HasOut out.vertices k s out.vertices out mid) (sym h.vertex)
    (subst (λ k. HasOut k v s k out mid) (sym h.vertices) h)
