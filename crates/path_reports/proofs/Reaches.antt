-- How far a vertex reaches, cell by cell of its row.
use Rattle.std.specs.Prelude.{◌≡◌, ◌≢◌, ℕ, ◌+◌, ◌*◌, ◌<◌, ◌≤◌, ◌⊎◌, max, List, [], ◌∷◌, length, Option, Some, None, refl}
use Rattle.std.proofs.Common.{sym, ◌∙◌, ap, subst, inl, inr, arith}
use Rattle.std.proofs.lemmas.Bool.{cases_lt}
use Rattle.std.proofs.lemmas.Nat.{mul-le}
use Rattle.apsp_model.specs.declared.TheConstants.{MOST_WEIGHT}
use Rattle.apsp_model.specs.Graph.{Graph, IsGraph}
use Rattle.apsp_model.specs.Walk.{IsWalkFrom, weight_of, hops_of}
use Rattle.apsp_model.specs.Least.{IsLeast, LeastIs}
use Rattle.apsp_model.proofs.Members.{in_cons, in_nil, head_in, tail_in}
use Rattle.apsp_model.proofs.Lists.{last_in, first_in}
use Rattle.apsp_model.proofs.Leasts.{least_unique, least_is_simple, least_of_vertex}
use Rattle.apsp_model.proofs.Simples.{simple_walk_is_short, inside_walk, weight_most}
use Rattle.version_face.specs.declared.TheConstants.{NO_DISTANCE}
use Rattle.version_face.specs.Entries.{dist_in}
use Rattle.version_face.specs.Seen.{DistIs}
use Rattle.path_reports.specs.Reports.{HasDistance, IsSpan}
use Rattle.path_reports.specs.Spans.{IsSpanBelow}
use Rattle.path_reports.specs.declared.reports.Span.{Span}

-- ---- distances

pub distance_unique : (g : Graph) (x y a b : ℕ) → HasDistance g x y a → HasDistance g x y b → a ≡ b
distance_unique g x y a b h k = h.2 ∙ ap (weight_of g) (least_unique g x y h.0 k.0 h.1 k.1) ∙ sym k.2

pub walk_end_inside : (g : Graph) (x y : ℕ) (p : List ℕ) → IsWalkFrom g x y p → y < g.vertices
walk_end_inside g x y p h = inside_walk g p h.walk y (last_in p y h.to)

pub walk_start_inside : (g : Graph) (x y : ℕ) (p : List ℕ) → IsWalkFrom g x y p → x < g.vertices
walk_start_inside g x y p h = inside_walk g p h.walk x (first_in p x h.from)

-- no walk that is least weighs as much as the value for none
pub weight_is_some : (g : Graph) (x y : ℕ) (p : List ℕ) → IsGraph g → IsLeast g x y p → weight_of g p ≢ NO_DISTANCE
weight_is_some g x y p graph least =
    let short : length p ≤ g.vertices = simple_walk_is_short g p least.walk.walk (least_is_simple g p (x, y, least)) in
    let weight : weight_of g p ≤ hops_of p * MOST_WEIGHT = weight_most g graph p in
    let few : hops_of p ≤ 512 = omega (arith, short, graph.most) in
    let most : hops_of p * MOST_WEIGHT ≤ 512 * MOST_WEIGHT =
    mul-le (hops_of p) MOST_WEIGHT 512 MOST_WEIGHT few (omega arith) in
    λ e. omega (arith, e, weight, most)

-- ---- the row

pub span_starts : (g : Graph) (x : ℕ) → x < g.vertices → IsSpanBelow g x 0 0 0
span_starts g x inside = record {
  some = (x, (x ∷ [], least_of_vertex g x inside, refl));
  most = λ y d below h. absurd (omega (arith, below));
  vertices = [];
  once = tt;
  exact = λ y. (λ c. absurd (in_nil y c), λ h. absurd (omega (arith, h.0)));
  length_is = refl;
  few = omega arith;
}

greater_far : (g : Graph) (x k d far : ℕ) → HasDistance g x k d → ((y : ℕ) × HasDistance g x y far) → (y : ℕ)
    × HasDistance g x y (max far d)
greater_far g x k d far here before = elim (cases_lt far d) [
  | inl less ↦ let e : d ≡ max far d = omega (arith, less) in (k, subst (HasDistance g x k) e here)
  | inr more ↦ let e : far ≡ max far d = omega (arith, more) in (before.0, subst (HasDistance g x before.0) e before.1)
]

below_or_here : (y k : ℕ) → y < k + 1 → (y < k) ⊎ (y ≡ k)
below_or_here y k h = elim (cases_lt y k) [ inl less ↦ inl less | inr more ↦ inr (omega (arith, h, more)) ]

reached : (g : Graph) (x k d far reach : ℕ) (p : List ℕ) → IsLeast g x k p → d ≡ weight_of g p
    → IsSpanBelow g x k far reach → IsSpanBelow g x (k + 1) (max far d) (reach + 1)
reached g x k d far reach p least e h = record {
  some = greater_far g x k d far (p, least, e) h.some;
  most = λ y b below has. elim (below_or_here y k below) [
    | inl less ↦ omega (arith, h.most y b less has)
    | inr here ↦ let s : b ≡ d =
        distance_unique g x k b d (subst (λ z. HasDistance g x z b) here has) (p, least, e) in omega (arith, s)
  ];
  vertices = k ∷ h.vertices;
  once = (λ c. let below : k < k = ((h.exact k).0 c).0 in absurd (omega (arith, below)), h.once);
  exact = λ y. (
    λ c. elim (in_cons y k h.vertices c) [
      | inl here ↦ (omega (arith, here), subst (λ z. (q : List ℕ) × IsWalkFrom g x z q) here (p, least.walk))
      | inr more ↦ let r = (h.exact y).0 more in (omega (arith, r.0), r.1)
    ],
    λ r. elim (below_or_here y k r.0) [
      | inl less ↦ tail_in y k h.vertices ((h.exact y).1 (less, r.1))
      | inr here ↦ head_in y k h.vertices (sym here)
    ],
  );
  length_is = let f : length h.vertices ≡ reach = h.length_is in omega arith;
  few = omega (arith, h.few);
}

missed : (g : Graph) (x k far reach : ℕ) → ((q : List ℕ) → IsWalkFrom g x k q → ⊥) → IsSpanBelow g x k far reach
    → IsSpanBelow g x (k + 1) far reach
missed g x k far reach none h = record {
  some = h.some;
  most = λ y b below has. elim (below_or_here y k below) [
    | inl less ↦ h.most y b less has
    | inr here ↦ absurd (none has.0 (subst (λ z. IsWalkFrom g x z has.0) here has.1.walk))
  ];
  vertices = h.vertices;
  once = h.once;
  exact = λ y. (
    λ c. let r = (h.exact y).0 c in (omega (arith, r.0), r.1),
    λ r. elim (below_or_here y k r.0) [
      | inl less ↦ (h.exact y).1 (less, r.1)
      | inr here ↦ absurd (none r.1.0 (subst (λ z. IsWalkFrom g x z r.1.0) here r.1.1))
    ],
  );
  length_is = h.length_is;
  few = omega (arith, h.few);
}

pub span_reached : (g : Graph) (x k d far reach : ℕ) → DistIs g x k d → d ≢ NO_DISTANCE → IsSpanBelow g x k far reach
    → IsSpanBelow g x (k + 1) (max far d) (reach + 1)
span_reached g x k d far reach cell some h = go cell.0 cell.1 cell.2
  where
    go : (o : Option (List ℕ)) → LeastIs g x k o → d ≡ dist_in g o → IsSpanBelow g x (k + 1) (max far d) (reach + 1)
    go None least e = absurd (some e)
    go (Some p) least e = reached g x k d far reach p least e h

pub span_missed : (g : Graph) (x k d far reach : ℕ) → IsGraph g → DistIs g x k d → d ≡ NO_DISTANCE
    → IsSpanBelow g x k far reach → IsSpanBelow g x (k + 1) far reach
span_missed g x k d far reach graph cell none h = go cell.0 cell.1 cell.2
  where
    go : (o : Option (List ℕ)) → LeastIs g x k o → d ≡ dist_in g o → IsSpanBelow g x (k + 1) far reach
    go None least e = missed g x k far reach least h
    go (Some p) least e = absurd (weight_is_some g x k p graph least (sym e ∙ none))

pub span_done : (g : Graph) (x : ℕ) (s : Span) → IsSpanBelow g x g.vertices s.far s.reach → IsSpan g x s
span_done g x s h = record {
  far = record { some = h.some; most = λ y d has. h.most y d (walk_end_inside g x y has.0 has.1.walk) has };
  reach = record {
    vertices = h.vertices;
    once = h.once;
    exact = λ y. (λ c. ((h.exact y).0 c).1, λ r. (h.exact y).1 (walk_end_inside g x y r.0 r.1, r));
    length_is = h.length_is;
  };
}
