-- A star in an engine of locally shortest paths: from one book of locally shortest paths through cleanup, settling
-- and demotions to the next.
--
-- The mathematics. Let L(g) be the single vertices and all least walks of g. Before the star L(gb) is historical and
-- Local(gb, L(gb)) kept,
-- where gb and g differ at v alone. Cleanup leaves what settling needs, as it does of any closed historical paths.
-- Behind the settling
-- the historical paths are those of L(gb) that avoid v, the single vertices and all least walks of g; they are closed
-- under parts and hold
-- L(g). So the demotions may start, and once nothing is to be demoted L(g) is historical and Local(g, L(g)) is kept.
-- The historical paths with an edge are then the least walks of the pairs of different vertices that have a walk, one
-- a pair.
use Rattle.std.specs.Prelude.{◌≡◌, ◌≢◌, ℕ, ◌<◌, ◌↔◌, List, [], ◌∷◌, length, Some, refl, unwrap_or, is_some, Contains}
use Rattle.std.proofs.Common.{sym, ◌∙◌, ap, subst, arith, inl, inr}
use Rattle.std.proofs.lemmas.Bool.{true≢false}
use Rattle.std.specs.FinMap as map
use Rattle.apsp_model.specs.Graph.{Graph, no_edges, pair_cmp}
use Rattle.apsp_model.specs.Walk.{IsWalk, IsWalkFrom, IsOnceEach, first, last}
use Rattle.apsp_model.specs.Order.{IsBelow}
use Rattle.apsp_model.specs.Least.{IsLeast, IsLeastWalk, HasNoWalk}
use Rattle.apsp_model.specs.Local.{IsVertex, IsLocal, IsShortest}
use Rattle.apsp_model.specs.Kept.{IsWithEdge}
use Rattle.apsp_model.specs.Counts.{CountIs}
use Rattle.apsp_model.specs.Paths.{KeptPath, IsKeptIn, IsHistoricalIn}
use Rattle.apsp_model.specs.Settled.{HaveWeights, AreLocal, IsReady, IsSettled}
use Rattle.apsp_model.proofs.Exists.{least_exists}
use Rattle.apsp_model.proofs.Leasts.{single_below, least_closed, least_is_simple, least_unique}
use Rattle.apsp_model.proofs.Orders.{not_below_itself, not_both_below}
use Rattle.shortest_math.specs.Shortest.{IsLocallyShortest, IsDemoting, IsShortestBook, PairsAre}
use Rattle.apsp_model.proofs.Members.{in_cons, in_nil, head_in, tail_in}
use Rattle.fixup_math.proofs.Mending.{shortest_closed}
use Rattle.shortest_math.proofs.Demotions.{demoting_starts, all_demoted}
use Rattle.fixup_math.proofs.Settling.{apart_by_simple}
use Rattle.fixup_math.proofs.Start.{local_single}

-- ---- what is shortest

-- a single vertex is a least walk
pub single_is_least : (g : Graph) (x : ℕ) → x < g.vertices → IsLeast g x x (x ∷ [])
single_is_least g x inside = record { walk = record { walk = inside; from = refl; to = refl }; least = none }
  where
    none : (q : List ℕ) → IsWalkFrom g x x q → IsBelow g q (x ∷ []) → ⊥
    none [] w below = w.walk
    none (z ∷ []) w below =
        let starts : Some z ≡ Some x = w.from in
        let same : z ≡ x = cc in
        not_below_itself g (x ∷ []) (subst (λ (a : ℕ). IsBelow g (a ∷ []) (x ∷ [])) same below)
    none (z ∷ u ∷ q) w below = not_both_below g (z ∷ u ∷ q) (x ∷ []) below (single_below g x (z ∷ u ∷ q) (omega arith))

-- so the shortest lists are the least walks
pub shortest_is_least : (g : Graph) (p : List ℕ) → IsShortest g p ↔ IsLeastWalk g p
shortest_is_least g p = (
  λ h. elim h [
    | inl single ↦ (
      single.0,
      single.0,
      subst (IsLeast g single.0 single.0) (sym single.2) (single_is_least g single.0 single.1),
    )
    | inr least ↦ least
  ],
  λ least. inr least,
)

pub shortest_is_local : (g : Graph) (p : List ℕ) → IsShortest g p → IsLocallyShortest g p
shortest_is_local g p h =
    let least : IsLeastWalk g p = (shortest_is_least g p).0 h in
    record {
      simple = least_is_simple g p least;
      walk = least.2.walk.walk;
      parts =
          λ q part. inr (least_closed g p q least part.part);
    }

-- ---- the opening book

pub opening_is_shortest : (n : ℕ) (paths : List KeptPath) → ((p : List ℕ) → IsKeptIn paths p ↔ IsVertex n p)
    → ((p : List ℕ) → IsHistoricalIn paths p ↔ IsVertex n p) → HaveWeights (no_edges n) paths
    → IsShortestBook (no_edges n) paths
opening_is_shortest n paths kept historical weights = record {
  historical = λ p. (λ h. inl ((historical p).0 h), λ h. (historical p).1 (single_of p h));
  kept = λ p. (
    λ h. local_single (no_edges n) (IsShortest (no_edges n)) p ((kept p).0 h),
    λ l. (kept p).1 (alone p l.walk),
  );
  weights = weights;
}
  where
    alone : (p : List ℕ) → IsWalk (no_edges n) p → IsVertex n p
    alone [] walk = absurd walk
    alone (x ∷ []) walk = (x, walk, refl)
    alone (x ∷ y ∷ p) walk = absurd (true≢false (sym walk.1 ∙ ap is_some (map.get-empty pair_cmp (x, y))))

    single_of : (p : List ℕ) → IsShortest (no_edges n) p → IsVertex n p
    single_of p h = elim h [ inl single ↦ single | inr least ↦ alone p least.2.walk.walk ]

-- ---- a book of locally shortest paths is local

pub shortest_is_ready : (g : Graph) (paths : List KeptPath) → IsShortestBook g paths → AreLocal g paths
shortest_is_ready g paths book = record {
  closed = λ p q h part. (book.historical q).1 (shortest_closed g p q ((book.historical p).0 h) part);
  kept = λ p. (
    λ k. let l : IsLocal g (IsShortest g) p = (book.kept p).0 k in
        record { simple = l.simple; walk = l.walk; parts = λ q part. (book.historical q).1 (l.parts q part) },
    λ l. (book.kept p).1 (record {
      simple = l.simple;
      walk = l.walk;
      parts =
          λ q part. (book.historical q).0 (l.parts q part);
    }),
  );
  weights = book.weights;
}

-- ---- behind a settling the demotions start

-- what is historical and not shortest
abbrev pub ToDemote : Graph → List KeptPath → List ℕ → Type 0
ToDemote g paths p = IsHistoricalIn paths p × (IsShortest g p → ⊥)

pub settled_demotes : (g : Graph) (v birth : ℕ) (middle paths : List KeptPath) (formed promoted : ℕ)
    → IsReady g v middle → IsSettled g birth middle paths formed promoted
    → IsDemoting g (IsHistoricalIn paths) (IsHistoricalIn paths) (IsKeptIn paths) (ToDemote g paths)
settled_demotes g v birth middle paths formed promoted ready s =
    demoting_starts g (IsHistoricalIn paths) (IsKeptIn paths) (ToDemote g paths)
    (λ p q h part. (s.historical q).1
    (elim ((s.historical p).0 h) [
      | inl old ↦ inl (ready.closed p q old part)
      | inr least ↦
          inr (least_closed g p q least part)
    ]))
    (λ p h. (s.historical p).1 (inr ((shortest_is_least g p).0 h)))
    (λ p h. (h.0, h.1, h.2))
    s.kept
    (λ p. (λ h. h, λ h. h))

-- once nothing is to be demoted, the book is one of locally shortest paths again
pub demoted_book : (g : Graph) (H0 Todo : List ℕ → Type 0) (paths : List KeptPath)
    → IsDemoting g H0 (IsHistoricalIn paths) (IsKeptIn paths) Todo → ((p : List ℕ) → Todo p → ⊥) → HaveWeights g paths
    → IsShortestBook g paths
demoted_book g H0 Todo paths s none weights =
    let e = all_demoted g H0 (IsHistoricalIn paths) (IsKeptIn paths) Todo s none in
    record { historical = e.0; kept = e.1; weights = weights }

-- ---- how many pairs have a walk

abbrev pair_of : List ℕ → ℕ × ℕ
pair_of p = (unwrap_or (first p) 0, unwrap_or (last p) 0)

abbrev pairs_of : List (List ℕ) → List (ℕ × ℕ)
pairs_of [] = []
pairs_of (p ∷ ps) = pair_of p ∷ pairs_of ps

length-pairs_of : (ps : List (List ℕ)) → length (pairs_of ps) ≡ length ps
length-pairs_of [] = refl
length-pairs_of (p ∷ ps) = let e : length (pairs_of ps) ≡ length ps = length-pairs_of ps in omega arith

in_pairs : (ps : List (List ℕ)) (p : List ℕ) → Contains ps p → Contains (pairs_of ps) (pair_of p)
in_pairs [] p c = absurd (in_nil p c)
in_pairs (q ∷ ps) p c = elim (in_cons p q ps c) [
  | inl here ↦
      head_in (pair_of p) (pair_of q) (pairs_of ps) (ap pair_of here)
  | inr more ↦
      tail_in (pair_of p) (pair_of q) (pairs_of ps) (in_pairs ps p more)
]

from_pairs : (ps : List (List ℕ)) (e : ℕ × ℕ) → Contains (pairs_of ps) e → (p : List ℕ) × Contains ps p × (pair_of p ≡ e)
from_pairs [] e c = absurd (in_nil e c)
from_pairs (q ∷ ps) e c = elim (in_cons e (pair_of q) (pairs_of ps) c) [
  | inl here ↦ (q, head_in q q ps refl, here)
  | inr more ↦ let r : (p : List ℕ) × Contains ps p × (pair_of p ≡ e) = from_pairs ps e more in
      (r.0, tail_in r.0 q ps r.1, r.2)
]

pair_is : (g : Graph) (x y : ℕ) (p : List ℕ) → IsWalkFrom g x y p → pair_of p ≡ (x, y)
pair_is g x y p w = λ i. (unwrap_or (w.from i) 0, unwrap_or (w.to i) 0)

module _ (g : Graph) where
  -- two least walks of one pair are one
  one_a_pair : (p q : List ℕ) → IsLeastWalk g p → IsLeastWalk g q → pair_of p ≡ pair_of q → p ≡ q
  one_a_pair p q h k e =
      let same : (h.0, h.1) ≡ (k.0, k.1) = sym (pair_is g h.0 h.1 p h.2.walk) ∙ e ∙ pair_is g k.0 k.1 q k.2.walk in
      let from : h.0 ≡ k.0 = ap (λ (r : ℕ × ℕ). r.0) same in
      let to : h.1 ≡ k.1 = ap (λ (r : ℕ × ℕ). r.1) same in
      least_unique g k.0 k.1 p q (subst (λ (b : ℕ). IsLeast g k.0 b p) to
      (subst (λ (a : ℕ). IsLeast g a h.1 p) from h.2)) k.2

  pairs_once : (ps : List (List ℕ)) → ((p : List ℕ) → Contains ps p → IsLeastWalk g p) → IsOnceEach ps
      → IsOnceEach (pairs_of ps)
  pairs_once [] least once = tt
  pairs_once (p ∷ ps) least once = (
    λ c. let r : (q : List ℕ) × Contains ps q × (pair_of q ≡ pair_of p) = from_pairs ps (pair_of p) c in
        once.0 (subst (Contains ps) (one_a_pair r.0 p (least r.0 (tail_in r.0 p ps r.1))
        (least p (head_in p p ps refl)) r.2) r.1),
    pairs_once ps (λ q c. least q (tail_in q p ps c)) once.1,
  )

  no_single : (x y : ℕ) (p : List ℕ) → x ≢ y → IsWalkFrom g x y p → 1 < length p
  no_single x y [] apart k = absurd k.walk
  no_single x y (z ∷ []) apart k =
      absurd (apart (let starts : Some z ≡ Some x = k.from in let ends : Some z ≡ Some y = k.to in cc))
  no_single x y (z ∷ u ∷ p) apart k = omega arith

  -- as many as shortest paths with an edge
  pub pairs_are : (k : ℕ) → CountIs (λ p. IsShortest g p × IsWithEdge p) k → PairsAre g k
  pairs_are k c = record {
    pairs = pairs_of c.lists;
    once = pairs_once c.lists least c.once;
    exact = λ x y. (on x y, back x y);
    length_is = length-pairs_of c.lists ∙ c.length_is;
  }
    where
      least : (p : List ℕ) → Contains c.lists p → IsLeastWalk g p
      least p h = (shortest_is_least g p).0 ((c.exact p).0 h).0

      on : (x y : ℕ) → Contains (pairs_of c.lists) (x, y) → (x ≢ y) × ((q : List ℕ) × IsWalkFrom g x y q)
      on x y h =
          let r : (p : List ℕ) × Contains c.lists p × (pair_of p ≡ (x, y)) = from_pairs c.lists (x, y) h in
          let l : IsLeastWalk g r.0 = least r.0 r.1 in
          let same : (l.0, l.1) ≡ (x, y) = sym (pair_is g l.0 l.1 r.0 l.2.walk) ∙ r.2 in
          let walk : IsWalkFrom g x y r.0 = subst (λ (e : ℕ × ℕ). IsWalkFrom g e.0 e.1 r.0) same l.2.walk in
          (λ alike. apart_by_simple g x y r.0 (least_is_simple g r.0 l) ((c.exact r.0).0 r.1).1 walk alike, (r.0, walk))

      back : (x y : ℕ) → (x ≢ y) × ((q : List ℕ) × IsWalkFrom g x y q) → Contains (pairs_of c.lists) (x, y)
      back x y h =
          let l : (p : List ℕ) × IsLeast g x y p = least_exists g x y h.1.0 h.1.1 in
          subst (Contains (pairs_of c.lists)) (pair_is g x y l.0 l.1.walk)
          (in_pairs c.lists l.0 ((c.exact l.0).1 (inr (x, y, l.1), no_single x y l.0 h.0 l.1.walk)))

-- ---- answers

-- in a book of locally shortest paths a pair of which none is kept has no walk
pub none_is_no_walk : (g : Graph) (K : List ℕ → Type 0) → ((p : List ℕ) → IsShortest g p → K p) → (x y : ℕ)
    → ((q : List ℕ) → K q → IsWalkFrom g x y q → ⊥) → HasNoWalk g x y
none_is_no_walk g K all x y none r walk =
    let p : (p : List ℕ) × IsLeast g x y p = least_exists g x y r walk in
    none p.0 (all p.0 (inr (x, y, p.1))) p.1.walk
