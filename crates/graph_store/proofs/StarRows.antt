-- Stars as two rows of cells: for the calls of `Star`.
use Rattle.std.specs.Prelude.{◌≡◌, ◌≢◌, ℕ, ◌<◌, ◌==◌, ◌&&◌, ◌⊎◌, Bool, true, false, cond, if◌then◌else◌, List, length, replicate, slice_set, Option, Some, None, refl}
use Rattle.std.specs.FinMap as map
use Rattle.std.proofs.Common.{sym, ◌∙◌, ap, subst, inl, inr, arith, get_or-set_other, get_or-set_same}
use Rattle.std.proofs.lemmas.Bool.{cases_eq}
use Rattle.std.proofs.lemmas.Bool.Decides.{nat_tests}
use Rattle.std.proofs.lemmas.List.{length-replicate}
use Rattle.apsp_model.specs.Graph.{pair_cmp, IsEdgeOf}
use Rattle.apsp_model.specs.Star.{Star, IsStar}
use Rattle.apsp_model.proofs.Stars.{pairs_total}
use Rattle.graph_store.specs.Rows.{cell_at, star_of_rows, IsStarRows}
use Rattle.graph_store.specs.Making.{IsVertexCount, no_star}
use Rattle.graph_store.specs.Edges.{with_maybe_edge}
use Rattle.graph_store.proofs.Tables.{cases_inside, same_pair}
use Rattle.graph_store.proofs.Cells.{no_cells}
use Rattle.graph_store.proofs.Graphs.{edge-rows, no_edge, same_star}

none_some : (w : ℕ) → None ≡ Some w → ⊥
none_some w e = cc

pub star_of-no_cells : (n v j k : ℕ) → star_of_rows n v (replicate j None) (replicate k None) ≡ no_star n v
star_of-no_cells n v j k =
    same_star (star_of_rows n v (replicate j None) (replicate k None)) (no_star n v) refl refl
    (λ a b. elim (cases_inside n a b) [
      | inl i ↦ edge-rows n v (replicate j None) (replicate k None) a b i.0 i.1
          ∙ ap (λ o. if b == v then o else (if a == v then cell_at (replicate j None) b else None)) (no_cells k a)
          ∙ ap (λ o. if b == v then None else (if a == v then o else None)) (no_cells j b)
          ∙ none (b == v) (a == v)
          ∙ sym (map.get-empty pair_cmp (a, b))
      | inr o ↦ no_edge n v (replicate j None) (replicate k None) a b o ∙ sym (map.get-empty pair_cmp (a, b))
    ])
  where
    none : (c d : Bool) → (if c then None else (if d then None else None)) ≡ (let x : Option ℕ = None in x)
    none true d = refl
    none false true = refl
    none false false = refl

pub is_star-no_star : (n v : ℕ) → IsVertexCount n → v < n → IsStar (no_star n v)
is_star-no_star n v count inside = record {
  most = count.most;
  inside = inside;
  edges = λ a b w e. absurd (none_some w (sym (map.get-empty pair_cmp (a, b)) ∙ e));
  at_vertex = λ a b w e. absurd (none_some w (sym (map.get-empty pair_cmp (a, b)) ∙ e));
}

-- no star has an edge from its vertex to itself
pub no_loop_in : (n v : ℕ) (out into : List (Option ℕ)) → IsStarRows n v out into → cell_at into v ≡ None
no_loop_in n v out into h = by_case (cell_at into v) refl
  where
    inside : v < n
    inside = h.star.inside

    first : map.get (star_of_rows n v out into).edges (v, v) ≡ cell_at into v
    first = edge-rows n v out into v v inside inside ∙ at (cell_at into v) (cell_at out v)
      where
        at : (x y : Option ℕ) → (if v == v then x else (if v == v then y else None)) ≡ x
        at x y = grind (arith, nat_tests)

    by_case : (o : Option ℕ) → cell_at into v ≡ o → o ≡ None
    by_case None e = refl
    by_case (Some w) e = absurd ((h.star.edges v v w (first ∙ e)).apart refl)

pub out_weight-rows : (n v : ℕ) (out into : List (Option ℕ)) (u : ℕ) → u < n → IsStarRows n v out into
    → map.get (star_of_rows n v out into).edges (v, u) ≡ cell_at out u
out_weight-rows n v out into u p h = edge-rows n v out into v u h.star.inside p ∙ elim (cases_eq u v) [
  | inl same ↦ subst (λ k. (if k == v then cell_at into v else (if v == v then cell_at out k else None)) ≡ cell_at out
      k) (sym same) (at (cell_at into v) (cell_at out v) (no_loop_in n v out into h) h.no_loop)
  | inr other ↦ apart (cell_at into v) (cell_at out u) other
]
  where
    at : (x y : Option ℕ) → x ≡ None → y ≡ None → (if v == v then x else (if v == v then y else None)) ≡ y
    at x y p q = grind (arith, nat_tests)

    apart : (x y : Option ℕ) → (u ≡ v → ⊥) → (if u == v then x else (if v == v then y else None)) ≡ y
    apart x y other = grind (arith, nat_tests)

pub in_weight-rows : (n v : ℕ) (out into : List (Option ℕ)) (u : ℕ) → u < n → IsStarRows n v out into
    → map.get (star_of_rows n v out into).edges (u, v) ≡ cell_at into u
in_weight-rows n v out into u p h = edge-rows n v out into u v p h.star.inside ∙ at (cell_at into u) (cell_at out v)
  where
    at : (x y : Option ℕ) → (if v == v then x else (if u == v then y else None)) ≡ x
    at x y = grind (arith, nat_tests)

-- the edges after one was set or taken away
get-with : (s : Star) (u v : ℕ) (o : Option ℕ) (a b : ℕ)
    → map.get (with_maybe_edge s (u, v) o).edges (a, b) ≡ cond (a == u && b == v) o (map.get s.edges (a, b))
get-with s u v (Some w) a b =
    map.get-insert pairs_total s.edges (u, v) w (a, b)
    ∙ ap (λ c. cond c (Some w) (map.get s.edges (a, b))) (same_pair a b u v)
get-with s u v None a b =
    map.get-remove pairs_total s.edges (u, v) (a, b)
    ∙ ap (λ c. cond c None (map.get s.edges (a, b))) (same_pair a b u v)

same_frame : (s : Star) (e : ℕ × ℕ) (o : Option ℕ) → (s.vertices ≡ (with_maybe_edge s e o).vertices)
    × (s.vertex ≡ (with_maybe_edge s e o).vertex)
same_frame s e (Some w) = (refl, refl)
same_frame s e None = (refl, refl)

-- rows whose edges are those of a star with one edge set or taken away are that star
rows_with : (n v : ℕ) (out into out' into' : List (Option ℕ)) (c d : ℕ) (o : Option ℕ) → c < n → d < n
    → ((a b : ℕ) → a < n → b < n → (if b == v then cell_at into' a else (if a == v then cell_at out' b else None)) ≡
    cond (a == c && b == d) o (if b == v then cell_at into a else (if a == v then cell_at out b else None)))
    → star_of_rows n v out' into' ≡ with_maybe_edge (star_of_rows n v out into) (c, d) o
rows_with n v out into out' into' c d o from to same =
    same_star (star_of_rows n v out' into') (with_maybe_edge (star_of_rows n v out into) (c, d) o)
    (same_frame (star_of_rows n v out into) (c, d) o).0 (same_frame (star_of_rows n v out into) (c, d) o).1
    (λ a b. elim (cases_inside n a b) [
      | inl i ↦ edge-rows n v out' into' a b i.0 i.1
          ∙ same a b i.0 i.1
          ∙ ap (cond (a == c && b == d) o) (sym (edge-rows n v out into a b i.0 i.1))
          ∙ sym (get-with (star_of_rows n v out into) c d o a b)
      | inr p ↦ no_edge n v out' into' a b p
          ∙ beyond a b (map.get (star_of_rows n v out into).edges (a, b)) (no_edge n v out into a b p) p
          ∙ sym (get-with (star_of_rows n v out into) c d o a b)
    ])
  where
    beyond : (a b : ℕ) (r : Option ℕ) → r ≡ None → (a < n → b < n → ⊥) → None ≡ cond (a == c && b == d) o r
    beyond a b r e out = grind (arith, nat_tests)

pub with_out_edge : (n v : ℕ) (out into : List (Option ℕ)) (u : ℕ) (o : Option ℕ) → length out ≡ n → v < n → u < n
    → u ≢ v → star_of_rows n v (slice_set out u o) into ≡ with_maybe_edge (star_of_rows n v out into) (v, u) o
with_out_edge n v out into u o size inside p other = rows_with n v out into (slice_set out u o) into v u o inside p at
  where
    passed : (a b : ℕ) (x y : Option ℕ) → (b ≡ u → ⊥)
        → (if b == v then x else (if a == v then y else None)) ≡ cond (a == v && b == u) o
        (if b == v then x else (if a == v then y else None))
    passed a b x y apart = grind (arith, nat_tests)

    taken : (a : ℕ) (x y z : Option ℕ) → z ≡ o
        → (if u == v then x else (if a == v then z else None)) ≡ cond (a == v && u == u) o
        (if u == v then x else (if a == v then y else None))
    taken a x y z e = grind (arith, nat_tests)

    at : (a b : ℕ) → a < n → b < n → (if b == v then cell_at into a else
        (if a == v then cell_at (slice_set out u o) b else None)) ≡ cond (a == v && b == u) o
        (if b == v then cell_at into a else (if a == v then cell_at out b else None))
    at a b r q = elim (cases_eq b u) [
      | inl same ↦ subst (λ j. (if j == v then cell_at into a else
          (if a == v then cell_at (slice_set out u o) j else None)) ≡ cond (a == v && j == u) o
          (if j == v then cell_at into a else (if a == v then cell_at out j else None))) (sym same)
          (taken a (cell_at into a) (cell_at out u) (cell_at (slice_set out u o) u)
          (get_or-set_same out u o None (omega (arith, size, p))))
      | inr apart ↦ ap (λ r. if b == v then cell_at into a else (if a == v then r else None))
          (get_or-set_other out u b o None apart) ∙ passed a b (cell_at into a) (cell_at out b) apart
    ]

pub with_in_edge : (n v : ℕ) (out into : List (Option ℕ)) (u : ℕ) (o : Option ℕ) → length into ≡ n → v < n → u < n
    → star_of_rows n v out (slice_set into u o) ≡ with_maybe_edge (star_of_rows n v out into) (u, v) o
with_in_edge n v out into u o size inside p = rows_with n v out into out (slice_set into u o) u v o p inside at
  where
    passed : (a b : ℕ) (x y : Option ℕ) → (a ≡ u → ⊥)
        → (if b == v then x else (if a == v then y else None)) ≡ cond (a == u && b == v) o
        (if b == v then x else (if a == v then y else None))
    passed a b x y apart = grind (arith, nat_tests)

    taken : (b : ℕ) (x y z : Option ℕ) → z ≡ o
        → (if b == v then z else (if u == v then y else None)) ≡ cond (u == u && b == v) o
        (if b == v then x else (if u == v then y else None))
    taken b x y z e = grind (arith, nat_tests)

    at : (a b : ℕ) → a < n → b < n → (if b == v then cell_at (slice_set into u o) a else
        (if a == v then cell_at out b else None)) ≡ cond (a == u && b == v) o
        (if b == v then cell_at into a else (if a == v then cell_at out b else None))
    at a b r q = elim (cases_eq a u) [
      | inl same ↦ subst (λ j. (if b == v then cell_at (slice_set into u o) j else
          (if j == v then cell_at out b else None)) ≡ cond (j == u && b == v) o
          (if b == v then cell_at into j else (if j == v then cell_at out b else None))) (sym same)
          (taken b (cell_at into u) (cell_at out b) (cell_at (slice_set into u o) u)
          (get_or-set_same into u o None (omega (arith, size, p))))
      | inr apart ↦ ap (λ r. if b == v then r else (if a == v then cell_at out b else None))
          (get_or-set_other into u a o None apart) ∙ passed a b (cell_at into a) (cell_at out b) apart
    ]

-- a star with an edge set that is in range, or taken away, is a star
pub is_star-with : (s : Star) (c d : ℕ) (o : Option ℕ) → IsStar s → (c ≡ s.vertex) ⊎ (d ≡ s.vertex)
    → ((w : ℕ) → o ≡ Some w → IsEdgeOf s.vertices c d w) → IsStar (with_maybe_edge s (c, d) o)
is_star-with s c d o star ends edge = by_case o edge (λ a b w e. edges_of o edge a b w e)
  where
    of_case : (r : Option ℕ) → ((w : ℕ) → r ≡ Some w → IsEdgeOf s.vertices c d w) → (a b w : ℕ) (t : Bool)
        → (a == c && b == d) ≡ t → cond t r (map.get s.edges (a, b)) ≡ Some w → IsEdgeOf s.vertices a b w
        × ((a ≡ s.vertex) ⊎ (b ≡ s.vertex))
    of_case r edge a b w true is e =
        let from : a ≡ c = grind (arith, nat_tests) in
        let to : b ≡ d = grind (arith, nat_tests) in
        subst (λ i. IsEdgeOf s.vertices i b w × ((i ≡ s.vertex) ⊎ (b ≡ s.vertex))) (sym from)
        (subst (λ j. IsEdgeOf s.vertices c j w × ((c ≡ s.vertex) ⊎ (j ≡ s.vertex))) (sym to) (edge w e, ends))
    of_case r edge a b w false is e = (star.edges a b w e, star.at_vertex a b w e)

    edges_of : (r : Option ℕ) → ((w : ℕ) → r ≡ Some w → IsEdgeOf s.vertices c d w) → (a b w : ℕ)
        → map.get (with_maybe_edge s (c, d) r).edges (a, b) ≡ Some w → IsEdgeOf s.vertices a b w
        × ((a ≡ s.vertex) ⊎ (b ≡ s.vertex))
    edges_of r edge a b w e = of_case r edge a b w (a == c && b == d) refl (sym (get-with s c d r a b) ∙ e)

    by_case : (r : Option ℕ) → ((w : ℕ) → r ≡ Some w → IsEdgeOf s.vertices c d w)
        → ((a b w : ℕ) → map.get (with_maybe_edge s (c, d) r).edges (a, b) ≡ Some w → IsEdgeOf s.vertices a b w
        × ((a ≡ s.vertex) ⊎ (b ≡ s.vertex))) → IsStar (with_maybe_edge s (c, d) r)
    by_case (Some w) edge each =
        record {
          most = star.most;
          inside = star.inside;
          edges = λ a b x e. (each a b x e).0;
          at_vertex = λ a b x e.
              (each a b x e).1;
        }
    by_case None edge each =
        record {
          most = star.most;
          inside = star.inside;
          edges = λ a b x e. (each a b x e).0;
          at_vertex = λ a b x e.
              (each a b x e).1;
        }

pub empty_star : (n v : ℕ) → IsVertexCount n → v < n → IsStarRows n v (replicate n None) (replicate n None)
empty_star n v count inside = record {
  out_size = length-replicate n None;
  into_size = length-replicate n None;
  no_loop = no_cells n v;
  star = subst IsStar (sym (star_of-no_cells n v n n)) (is_star-no_star n v count inside);
}
