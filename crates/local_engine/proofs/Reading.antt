-- What the kept paths answer where each shortest list is kept, and what a new book keeps: for `is_least` and the
-- engine's readers.
use Rattle.std.specs.Prelude.{◌≡◌, ℕ, ◌<◌, List, [], ◌∷◌, Option, Some, None, MatchOption, refl, Contains}
use Rattle.std.specs.declared.cmp.Ordering.TheVariants.{Less}
use Rattle.std.proofs.Common.{sym, ◌∙◌, ap, subst, arith, inl, inr}
use Rattle.apsp_model.specs.Graph.{Graph, no_edges}
use Rattle.apsp_model.specs.Walk.{IsWalkFrom, weight_of as walk_weight, hops_of, first, last}
use Rattle.apsp_model.specs.Order.{IsBelow, path_cmp}
use Rattle.apsp_model.specs.Least.{IsLeast, HasNoWalk}
use Rattle.apsp_model.specs.Local.{IsVertex, IsShortest}
use Rattle.apsp_model.specs.Counts.{CountIs}
use Rattle.apsp_model.specs.Kept.{IsWithEdge}
use Rattle.apsp_model.specs.Paths.{KeptPath, IsKeptIn, IsHistoricalIn}
use Rattle.apsp_model.specs.Settled.{IsReady, IsSettled}
use Rattle.apsp_model.proofs.Below.{upto_or_above}
use Rattle.apsp_model.proofs.Counting.{count_same}
use Rattle.apsp_model.proofs.Exists.{least_or_none}
use Rattle.apsp_model.proofs.Leasts.{least_unique, least_closed}
use Rattle.fixup_math.specs.Settling.{IsLeastKept}
use Rattle.fixup_math.proofs.Start.{local_single}
use Rattle.path_arena.specs.Arena.{vertex_of, IsLive, path_of, list_of, weight_of_id, id_cmp, single, second}
use Rattle.path_arena.proofs.Paths.{live_from, path_of_at}
use Rattle.pair_heaps.specs.Heaps.{HasEnds}
use Rattle.path_book.specs.Book.{Book, IsBook, IsOpeningBook, IsLeastKeptId, KeepsNone, HasNonePending, kept_path, kept_paths, PathsCount, HistoricalCount}
use Rattle.path_book.proofs.Kept.{kept_at, kept_live, historical_marked, live_is_kept}
use Rattle.shortest_math.specs.Shortest.{IsLocallyShortest, IsShortestBook, IsShortening, PairsAre}
use Rattle.shortest_math.proofs.Demotions.{head_is_least, least_of_pair, shortest_is_historical, historical_is_kept, kept_is_local}
use Rattle.shortest_math.proofs.ShortestStars.{shortest_is_least, shortest_is_local, opening_is_shortest, pairs_are, none_is_no_walk}
use Rattle.version_face.specs.declared.Entry.{Entry}
use Rattle.version_face.specs.Entries.{EntryIs, second_of}
use Rattle.local_engine.specs.declared.engine.LocalChange.{LocalChange}
use Rattle.local_engine.specs.Seen.{LocalSeen, KeepsLocallyShortest, AreCountsOf}
use Rattle.local_engine.specs.Kept.{KeepsLocal, CoversShortest}

-- ---- where each shortest list is kept

-- behind a settling
pub settled_is_local : (g : Graph) (v birth : ℕ) (middle paths : List KeptPath) (formed promoted : ℕ)
    → IsReady g v middle → IsSettled g birth middle paths formed promoted → KeepsLocal g paths
settled_is_local g v birth middle paths formed promoted ready s = record {
  local = record {
    closed = λ p q h part. (s.historical q).1
        (elim ((s.historical p).0 h) [
          | inl old ↦ inl (ready.closed p q old part)
          | inr least ↦
              inr (least_closed g p q least part)
        ]);
    kept = s.kept;
    weights = s.weights;
  };
  least = λ p least. (s.historical p).1 (inr least);
}

pub local_covers : (g : Graph) (paths : List KeptPath) → KeepsLocal g paths → CoversShortest g paths
local_covers g paths k = record {
  shortest = λ p h. elim h [
    | inl one ↦ (k.local.kept p).1 (local_single g (IsHistoricalIn paths) p one)
    | inr least ↦ let h : IsHistoricalIn paths p = k.least p least in (h.0, h.1, h.2)
  ];
  walks = λ p h. ((k.local.kept p).0 h).walk;
  weights = k.local.weights;
}

-- between two demotions
pub shortening_covers : (g : Graph) (H0 : List ℕ → Type 0) (ps : List (List ℕ)) (paths : List KeptPath)
    → IsShortening g H0 ps paths → CoversShortest g paths
shortening_covers g H0 ps paths s =
    let H : List ℕ → Type 0 = IsHistoricalIn paths in
    let K : List ℕ → Type 0 = IsKeptIn paths in
    record {
      shortest = λ p h. historical_is_kept g H0 H K (Contains ps) s.demoting p
          (shortest_is_historical g H0 H K (Contains ps) s.demoting p h);
      walks = λ p h. (kept_is_local g H0 H K (Contains ps) s.demoting p h).walk;
      weights = s.weights;
    }

-- behind the last one
pub book_covers : (g : Graph) (paths : List KeptPath) → IsShortestBook g paths → CoversShortest g paths
book_covers g paths b = record {
  shortest = λ p h. (b.kept p).1 (shortest_is_local g p h);
  walks = λ p h. ((b.kept p).0 h).walk;
  weights = b.weights;
}

-- ---- the least path of a pair

module _ (b : Book) (g : Graph) (c : CoversShortest g (kept_paths b)) (x y : ℕ) where
  weight_is : (id : ℕ) → IsLive b.arena id → weight_of_id b.arena id ≡ walk_weight g (list_of b.arena id)
  weight_is id live = c.weights (kept_path b id (path_of b.arena id)) (live_is_kept b id live)

  walk_between : (id : ℕ) → IsLive b.arena id → HasEnds b.arena id x y → IsWalkFrom g x y (list_of b.arena id)
  walk_between id live ends = record {
    walk =
        c.walks (list_of b.arena id) ((kept_live b (list_of b.arena id)).1 (id, live, refl));
    from = ends.0;
    to =
        ends.1;
  }

  first_kept : (id : ℕ) → IsLeastKeptId b x y id → IsLeastKept g (IsKeptIn (kept_paths b)) x y (list_of b.arena id)
  first_kept id l = record {
    kept = (kept_live b (list_of b.arena id)).1 (id, l.live, refl);
    walk = walk_between id l.live l.ends;
    first = λ p kept walk. (
        let at = (kept_live b p).0 kept in
        elim (upto_or_above g (list_of b.arena id) p) [
          | inl upto ↦ upto
          | inr above ↦ absurd (l.least at.0 at.1 (ap first at.2 ∙ walk.from, ap last at.2 ∙ walk.to)
              (under at.0 at.1 p at.2 above))
        ]
        );
  }
    where
      under : (q : ℕ) → IsLive b.arena q → (p : List ℕ) → list_of b.arena q ≡ p → IsBelow g p (list_of b.arena id)
          → id_cmp b.arena q id ≡ Less
      under q live p is above =
          let weights : id_cmp b.arena q id ≡ path_cmp (walk_weight g p) p (walk_weight g (list_of b.arena id))
          (list_of b.arena id) = (λ i. path_cmp (both i) (is i) (weight_is id l.live i) (list_of b.arena id)) in
          weights ∙ above
        where
          both : weight_of_id b.arena q ≡ walk_weight g p
          both = weight_is q live ∙ ap (walk_weight g) is

  pub least_walk : (id : ℕ) → IsLeastKeptId b x y id → IsLeast g x y (list_of b.arena id)
  least_walk id l = head_is_least g (IsKeptIn (kept_paths b)) c.shortest x y (list_of b.arena id) (first_kept id l)

  pub least_weight : (id : ℕ) → IsLeastKeptId b x y id → weight_of_id b.arena id ≡ walk_weight g (list_of b.arena id)
  least_weight id l = weight_is id l.live

  pub no_walk : KeepsNone b x y → HasNoWalk g x y
  no_walk none = none_is_no_walk g (IsKeptIn (kept_paths b)) c.shortest x y (λ q kept walk. (
      let at = (kept_live b q).0 kept in
      none at.0 at.1 (ap first at.2 ∙ walk.from, ap last at.2 ∙ walk.to)
      ))

  -- a kept path is the least one of its pair exactly where it is shortest
  pub least_is_shortest : (id : ℕ) → IsLeastKeptId b x y id → IsShortest g (list_of b.arena id)
  least_is_shortest id l = inr (x, y, least_walk id l)

  pub shortest_is_first : IsBook b → (id : ℕ) → IsLive b.arena id → HasEnds b.arena id x y
      → IsShortest g (list_of b.arena id) → (o : Option ℕ) → MatchOption o (KeepsNone b x y) (IsLeastKeptId b x y)
      → o ≡ Some id
  shortest_is_first was id live ends h None none = absurd (none id live ends)
  shortest_is_first was id live ends h (Some q) l =
      let least : IsLeast g x y (list_of b.arena id) =
      least_of_pair g x y (list_of b.arena id) (walk_between id live ends)
      ((shortest_is_least g (list_of b.arena id)).0 h) in
      ap Some (was.once q id l.live live
      (least_unique g x y (list_of b.arena q) (list_of b.arena id) (least_walk q l) least))

-- where each shortest path is historical, the least kept one of each pair is
pub none_pending : (b : Book) (g : Graph) → CoversShortest g (kept_paths b)
    → ((p : List ℕ) → IsShortest g p → IsHistoricalIn (kept_paths b) p) → HasNonePending b
none_pending b g c shortest x y inside_x inside_y = elim (least_or_none g x y) [
  | inr none ↦ inl (λ q live ends. none (list_of b.arena q) (walk_between b g c x y q live ends))
  | inl p ↦
      let m = (historical_marked b p.0).0 (shortest p.0 (inr (x, y, p.1))) in
      let walk : IsWalkFrom g x y p.0 = p.1.walk in
      inr (
        m.0,
        record {
          live = m.1;
          ends = (ap first m.2 ∙ walk.from, ap last m.2 ∙ walk.to);
          least = λ q live ends below. (
              let v : weight_of_id b.arena q ≡ walk_weight g (list_of b.arena q) = weight_is b g c x y q live in
              let u : weight_of_id b.arena m.0 ≡ walk_weight g p.0 =
              weight_is b g c x y m.0 m.1 ∙ ap (walk_weight g) m.2 in
              let lower : IsBelow g (list_of b.arena q) p.0 =
              sym (λ i. path_cmp (v i) (list_of b.arena q) (u i) (m.2 i)) ∙ below in
              p.1.least (list_of b.arena q) (walk_between b g c x y q live ends) lower
              );
        },
        m.3,
      )
]

-- ---- a new book

module _ (b : Book) (n : ℕ) (lawful : IsBook b) (opened : IsOpeningBook b n) where
  inside : (u : ℕ) → u < n → u < b.arena.vertices
  inside u l = omega (arith, l, opened.vertices)

  at_vertex : (u : ℕ) → u < n → path_of b.arena (vertex_of b.arena u) ≡ single u
  at_vertex u l = path_of_at b.arena (vertex_of b.arena u) (single u) (lawful.arena.singles u (inside u l))

  live_vertex : (u : ℕ) → u < n → IsLive b.arena (vertex_of b.arena u)
  live_vertex u l = live_from b.arena (vertex_of b.arena u) (single u) (lawful.arena.singles u (inside u l))

  single_of : (id : ℕ) → IsLive b.arena id → (u : ℕ) × (u < n) × (path_of b.arena id ≡ single u)
  single_of id live = let u = opened.live id live in (u.0, u.1, ap (path_of b.arena) u.2 ∙ at_vertex u.0 u.1)

  to_vertex : (p : List ℕ) (id : ℕ) → IsLive b.arena id → list_of b.arena id ≡ p → IsVertex n p
  to_vertex p id live is = let u = single_of id live in (u.0, u.1, sym is ∙ ap (λ q. q.list) u.2)

  list_at : (p : List ℕ) (h : IsVertex n p) → list_of b.arena (vertex_of b.arena h.0) ≡ p
  list_at p h = ap (λ q. q.list) (at_vertex h.0 h.1) ∙ sym h.2

  opening_weights : (g : Graph) (k : KeptPath) → Contains (kept_paths b) k → k.weight ≡ walk_weight g k.list
  opening_weights g k c =
      let at = kept_at b k c in
      let u = single_of at.id at.live in
      ap (λ (q : KeptPath). q.weight) (sym at.is) ∙ ap (λ q. q.weight) u.2
      ∙ ap (walk_weight g) (sym (ap (λ q. q.list) u.2) ∙ at.list)

  pub opening_keeps : (g : Graph) → g ≡ no_edges n → IsShortestBook g (kept_paths b)
  opening_keeps g is = subst (λ h. IsShortestBook h (kept_paths b)) (sym is) (opening_is_shortest n (kept_paths b)
      (λ p. (
        λ h. (let at = (kept_live b p).0 h in to_vertex p at.0 at.1 at.2),
        λ h. (kept_live b p).1 (vertex_of b.arena h.0, live_vertex h.0 h.1, list_at p h),
      ))
      (λ p. (
        λ h. (let at = (historical_marked b p).0 h in to_vertex p at.0 at.1 at.2),
        λ h. (historical_marked b p).1
            (vertex_of b.arena h.0, live_vertex h.0 h.1, list_at p h, lawful.singles h.0 (inside h.0 h.1)),
      ))
      (opening_weights (no_edges n)))

-- ---- counts

paths_counted : (g : Graph) (b : Book) (k : ℕ) → IsShortestBook g (kept_paths b) → PathsCount b k
    → CountIs (λ p. IsLocallyShortest g p × IsWithEdge p) k
paths_counted g b k s = count_same (λ p. IsKeptIn (kept_paths b) p × IsWithEdge p)
    (λ p. IsLocallyShortest g p × IsWithEdge p) k (λ p. (λ h. ((s.kept p).0 h.0, h.1), λ h. ((s.kept p).1 h.0, h.1)))

pairs_counted : (g : Graph) (b : Book) (k : ℕ) → IsShortestBook g (kept_paths b) → HistoricalCount b k → PairsAre g k
pairs_counted g b k s count = pairs_are g k
    (count_same (λ p. IsHistoricalIn (kept_paths b) p × IsWithEdge p) (λ p. IsShortest g p × IsWithEdge p) k
    (λ p. (λ h. ((s.historical p).0 h.0, h.1), λ h. ((s.historical p).1 h.0, h.1))) count)

pub counts_are : (e : LocalSeen) (c : LocalChange) → KeepsLocallyShortest e → c.number ≡ e.number
    → PathsCount e.book c.paths → HistoricalCount e.book c.shortest → AreCountsOf e c
counts_are e c keeps number paths shortest =
    record {
      number = number;
      paths = paths_counted e.graph e.book c.paths keeps paths;
      shortest =
          pairs_counted e.graph e.book c.shortest keeps shortest;
    }

-- ---- what the engine's readers give

second_is : (p : List ℕ) (v : ℕ) → second p ≡ Some v → v ≡ second_of p
second_is [] v e = cc
second_is (x ∷ []) v e = cc
second_is (x ∷ z ∷ p) v e = cc

-- the least kept path of a pair says what the least walk says
pub entry_is : (b : Book) (g : Graph) → CoversShortest g (kept_paths b) → (x y id : ℕ) → IsLeastKeptId b x y id
    → (e : Entry) → e.dist ≡ weight_of_id b.arena id → e.hops ≡ hops_of (list_of b.arena id)
    → second (list_of b.arena id) ≡ Some e.next → EntryIs g x y (Some e)
entry_is b g c x y id l e dist hops next = (
  list_of b.arena id,
  least_walk b g c x y id l,
  record {
    dist = dist ∙ least_weight b g c x y id l;
    hops = hops;
    next = second_is (list_of b.arena id) e.next next;
  },
)
