-- Where a vertex has no edges yet, an opening or settled book is ready for a star at it. Serves the tests alone.
use Rattle.std.specs.Prelude.{◌≡◌, ℕ, ◌+◌, ◌<◌, ◌≤◌, ◌⊎◌, ◌↔◌, Bool, true, false, ◌==◌, if◌then◌else◌, List, [], Option, Some, None, is_some, refl}
use Rattle.std.specs.FinMap as map
use Rattle.std.proofs.Common.{sym, ◌∙◌, ap, subst, arith, inl, inr}
use Rattle.std.proofs.lemmas.Bool.{cases_Bool, cases_eq, cases_lt, or_cases, eqb-true, true≢false}
use Rattle.apsp_model.specs.Graph.{Graph, IsGraph, IsEdgeOf, weight_at, no_edges}
use Rattle.apsp_model.specs.Star.{Star, touches, star_of}
use Rattle.apsp_model.specs.Walk.{weight_of}
use Rattle.apsp_model.specs.Local.{IsVertex, IsLocal}
use Rattle.apsp_model.specs.Kept.{opening}
use Rattle.apsp_model.specs.Paths.{KeptPath, IsKeptIn, IsHistoricalIn}
use Rattle.apsp_model.specs.Settled.{without_star, HaveWeights, IsReady, IsSettled}
use Rattle.apsp_model.proofs.Leasts.{least_closed}
use Rattle.apsp_model.proofs.Stars.{same_graph, weight-star_of}
use Rattle.fixup_math.proofs.Births.{StateBefore, opening_book}
use Rattle.fixup_math.proofs.Start.{weight-without}
use Rattle.path_arena.specs.Arena.{vertex_of, IsLive, path_of, single}
use Rattle.path_arena.proofs.Paths.{live_from, path_of_at}
use Rattle.path_book.specs.Book.{Book, IsBook, IsOpeningBook, kept_paths}
use Rattle.path_book.proofs.Kept.{kept_at, kept_live, historical_marked}

-- ready wherever a vertex has no edges
abbrev pub IsReadyForMore : Graph → List KeptPath → Type 0
IsReadyForMore g paths = (v : ℕ) → without_star g v ≡ g → IsReady g v paths

-- ---- vertices without edges

-- no edge between v and a vertex below k
abbrev pub HasNoneBelow : Graph → ℕ → ℕ → Type 0
HasNoneBelow g v k = (u : ℕ) → u < k → (weight_at g u v ≡ None) × (weight_at g v u ≡ None)

pub none_yet : (g : Graph) (v : ℕ) → HasNoneBelow g v 0
none_yet g v u l = absurd (omega (arith, l))

pub none_more : (g : Graph) (v k : ℕ) (o r : Option ℕ) → o ≡ weight_at g k v → is_some o ≡ false → r ≡ weight_at g v k
    → is_some r ≡ false → HasNoneBelow g v k → HasNoneBelow g v (k + 1)
none_more g v k o r into e out f before u l = elim (cases_eq u k) [
  | inl here ↦ (
    ap (λ x. weight_at g x v) here ∙ sym into ∙ nothing o e,
    ap (weight_at g v) here ∙ sym out
        ∙ nothing r f,
  )
  | inr apart ↦ before u (omega arith)
]
  where
    nothing : (o : Option ℕ) → is_some o ≡ false → o ≡ None
    nothing None e = refl
    nothing (Some w) e = absurd (true≢false e)

outside : (g : Graph) (a b : ℕ) → IsGraph g → (g.vertices ≤ a) ⊎ (g.vertices ≤ b) → weight_at g a b ≡ None
outside g a b lawful out = go (weight_at g a b) refl
  where
    go : (o : Option ℕ) → weight_at g a b ≡ o → weight_at g a b ≡ None
    go None e = e
    go (Some w) e =
        let edge : IsEdgeOf g.vertices a b w = lawful.edges a b w e in
        let from : a < g.vertices = edge.from in
        let to : b < g.vertices = edge.to in
        absurd (elim out [ inl l ↦ omega (arith, l) | inr l ↦ omega (arith, l) ])

pub none_there : (g : Graph) (v : ℕ) → IsGraph g → HasNoneBelow g v g.vertices → without_star g v ≡ g
none_there g v lawful none =
    same_graph (without_star g v) g refl (λ a b. weight-without g v a b ∙ elim (cases_Bool (touches v (a, b))) [
      | inl at ↦ ap (λ c. if c then None else weight_at g a b) at ∙ sym (gone a b at)
      | inr apart ↦ ap (λ c. if c then None else weight_at g a b) apart
    ])
  where
    gone : (a b : ℕ) → touches v (a, b) ≡ true → weight_at g a b ≡ None
    gone a b at = elim (or_cases (a == v) (b == v) at) [
      | inl from ↦ elim (cases_lt b g.vertices) [
        | inl l ↦ ap (λ x. weight_at g x b) (eqb-true a v from) ∙ (none b l).1
        | inr l ↦ outside g a b lawful (inr l)
      ]
      | inr to ↦ elim (cases_lt a g.vertices) [
        | inl l ↦ ap (weight_at g a) (eqb-true b v to) ∙ (none a l).0
        | inr l ↦ outside g a b lawful (inl l)
      ]
    ]

-- a star changes nothing away from its vertex
without_same : (g : Graph) (s : Star) → without_star (star_of g s) s.vertex ≡ without_star g s.vertex
without_same g s = same_graph (without_star (star_of g s) s.vertex) (without_star g s.vertex) refl (λ a b.
    weight-without (star_of g s) s.vertex a b
    ∙ either (touches s.vertex (a, b)) (map.get s.edges (a, b)) (weight_at g a b) (weight_at (star_of g s) a b)
    (weight-star_of g s a b)
    ∙ sym (weight-without g s.vertex a b))
  where
    either : (c : Bool) (x y r : Option ℕ) → r ≡ (if c then x else y)
        → (if c then None else r) ≡ (if c then None else y)
    either true x y r e = refl
    either false x y r e = e

-- ---- settling one star behind another

pub star_ready : (g h : Graph) (s : Star) (v : ℕ) (paths : List KeptPath) → h ≡ star_of g s → v ≡ s.vertex
    → without_star g v ≡ g → IsReadyForMore g paths → IsReady h v paths
star_ready g h s v paths is at none more = record {
  closed = ready.closed;
  kept = subst (λ (k : Graph). (p : List ℕ) → IsKeptIn paths p ↔ IsLocal k (IsHistoricalIn paths) p) same ready.kept;
  weights = subst (λ (k : Graph). HaveWeights k paths) same ready.weights;
}
  where
    ready : IsReady g v paths
    ready = more v none

    same : without_star g v ≡ without_star h v
    same = ap (without_star g) at ∙ sym (without_same g s) ∙ (λ i. without_star (sym is i) (sym at i))

pub settled_ready : (g : Graph) (v birth : ℕ) (before after : List KeptPath) (formed promoted : ℕ) → IsReady g v before
    → IsSettled g birth before after formed promoted → IsReadyForMore g after
settled_ready g v birth before after formed promoted ready settled u none = record {
  closed = λ p q h part. (settled.historical q).1
      (elim ((settled.historical p).0 h) [
        | inl old ↦ inl (ready.closed p q old part)
        | inr least ↦
            inr (least_closed g p q least part)
      ]);
  kept = subst (λ (h : Graph). (p : List ℕ) → IsKeptIn after p ↔ IsLocal h (IsHistoricalIn after) p) (sym none)
      settled.kept;
  weights = subst (λ (h : Graph). HaveWeights h after) (sym none) settled.weights;
}

-- ---- the opening book

pub opening_ready : (b : Book) (n : ℕ) (g : Graph) → g ≡ no_edges n → IsBook b → IsOpeningBook b n
    → IsReadyForMore g (kept_paths b)
opening_ready b n g is lawful opened v none = record {
  closed = λ p q h part. to_historical q (singles.closed p q (to_vertex p (to_kept p h)) part);
  kept = subst (λ (h : Graph). (p : List ℕ) → IsKeptIn (kept_paths b) p ↔ IsLocal h (IsHistoricalIn (kept_paths b)) p)
      (sym (none ∙ is)) kept_is;
  weights =
      λ k c. (let at = kept_at b k c in let u = single_of at.id at.live in ap (λ (q : KeptPath). q.weight) (sym at.is)
      ∙ ap (λ q. q.weight) u.2 ∙ ap (weight_of (without_star g v)) (sym (ap (λ q. q.list) u.2) ∙ at.list));
}
  where
    singles : StateBefore (no_edges n) (opening n)
    singles = opening_book n

    inside : (u : ℕ) → u < n → u < b.arena.vertices
    inside u l = omega (arith, l, opened.vertices)

    at_vertex : (u : ℕ) → u < n → path_of b.arena (vertex_of b.arena u) ≡ single u
    at_vertex u l = path_of_at b.arena (vertex_of b.arena u) (single u) (lawful.arena.singles u (inside u l))

    single_of : (id : ℕ) → IsLive b.arena id → (u : ℕ) × (u < n) × (path_of b.arena id ≡ single u)
    single_of id live = let u = opened.live id live in (u.0, u.1, ap (path_of b.arena) u.2 ∙ at_vertex u.0 u.1)

    to_vertex : (p : List ℕ) → IsKeptIn (kept_paths b) p → IsVertex n p
    to_vertex p h =
        let at = (kept_live b p).0 h in let u = single_of at.0 at.1 in (u.0, u.1, sym at.2 ∙ ap (λ q. q.list) u.2)

    to_historical : (p : List ℕ) → IsVertex n p → IsHistoricalIn (kept_paths b) p
    to_historical p h = (historical_marked b p).1 (
      vertex_of b.arena h.0,
      live_from b.arena (vertex_of b.arena h.0) (single h.0) (lawful.arena.singles h.0 (inside h.0 h.1)),
      ap (λ q. q.list) (at_vertex h.0 h.1) ∙ sym h.2,
      lawful.singles h.0 (inside h.0 h.1),
    )

    to_kept : (p : List ℕ) → IsHistoricalIn (kept_paths b) p → IsKeptIn (kept_paths b) p
    to_kept p h = (h.0, h.1, h.2)

    kept_is : (p : List ℕ) → IsKeptIn (kept_paths b) p ↔ IsLocal (no_edges n) (IsHistoricalIn (kept_paths b)) p
    kept_is p = (
      λ h. (let l = (singles.kept p).0 (to_vertex p h) in
          record { simple = l.simple; walk = l.walk; parts = λ q part. to_historical q (l.parts q part) }),
      λ l. to_kept p (to_historical p ((singles.kept p).1
          (record { simple = l.simple; walk = l.walk; parts = λ q part. to_vertex q (to_kept q (l.parts q part)) }))),
    )
