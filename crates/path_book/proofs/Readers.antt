-- What the readers of a book give.
use Rattle.std.specs.Prelude.{◌≡◌, ◌≢◌, ℕ, ◌+◌, ◌<◌, ◌⊎◌, ◌↔◌, Bool, true, false, List, [], ◌∷◌, length, Option, Some, None, IsNone, is_some, IfSome, MatchOption, refl, Contains}
use Rattle.std.specs.FinSet as set
use Rattle.std.specs.declared.cmp.Ordering.TheVariants.{Less}
use Rattle.std.proofs.Common.{sym, ◌∙◌, ap, subst, arith, inl, inr}
use Rattle.std.proofs.lemmas.Bool.{true≢false}
use Rattle.apsp_model.specs.Walk.{IsSimple, first, last}
use Rattle.apsp_model.specs.Kept.{IsWithEdge}
use Rattle.apsp_model.specs.Counts.{CountIs}
use Rattle.apsp_model.specs.Paths.{IsKeptIn, IsHistoricalIn}
use Rattle.apsp_model.proofs.Members.{in_nil, head_in, tail_in}
use Rattle.apsp_model.proofs.Counting.{count_same, count_either}
use Rattle.path_arena.specs.Arena.{Path, Arena, path_at, vertex_of, IsLive, path_of, list_of, HasAnEdge, single, id_cmp, IsArena}
use Rattle.path_arena.proofs.Paths.{Parted, parted, live_path, live_from, live_from_edge, path_of_at}
use Rattle.pair_heaps.specs.Heaps.{Heaps, held_at, HasEnds, IsHeld, IsLeastHeld, IsLeastIn, TellsLeast}
use Rattle.pair_heaps.proofs.Orders.{not_below_itself}
use Rattle.path_book.specs.Book.{Book, IsMarked, kept_paths, IsBook, IsLeastKeptId, KeepsNone, TellsLeastKept, PathsCount, HistoricalCount}
use Rattle.path_book.specs.Layout.{IsCounted, IsStored}
use Rattle.path_book.proofs.Kept.{kept_live, historical_marked}

-- a live path is a single vertex or has an edge
pub single_or_edge : (a : Arena) (id : ℕ) → IsArena a → IsLive a id
    → ((v : ℕ) × (v < a.vertices) × (id ≡ vertex_of a v) × (list_of a id ≡ v ∷ [])) ⊎ HasAnEdge a id
single_or_edge a id h live = go (live_path a id live)
  where
    go : (p : Path) × (path_at a id ≡ Some p)
        → ((v : ℕ) × (v < a.vertices) × (id ≡ vertex_of a v) × (list_of a id ≡ v ∷ [])) ⊎ HasAnEdge a id
    go (p, e) = elim (h.paths id p e).kind [
      | inl one ↦ inl (one.0, one.1, one.2, ap (λ q. q.list) (path_of_at a id p e ∙ one.3))
      | inr parts ↦ inr (ap is_some (ap (λ q. q.left) (path_of_at a id p e) ∙ parts.left_is))
    ]

pub edge_of_long : (a : Arena) (id : ℕ) → IsArena a → IsLive a id → 1 < length (list_of a id) → HasAnEdge a id
edge_of_long a id h live long = elim (single_or_edge a id h live) [
  | inl one ↦ absurd (omega (arith, ap length one.3))
  | inr edge ↦ edge
]

pub long_of_edge : (a : Arena) (id : ℕ) → IsArena a → HasAnEdge a id → 1 < length (list_of a id)
long_of_edge a id h edge =
    let p : Parted a id = parted a id h edge in
    let long : 1 < length p.path.list = p.parts.with_edge in
    omega (arith, ap (λ q. length q.list) p.of)

-- ---- the counts

module _ (b : Book) (was : IsBook b) where
  kept_counted : (p : List ℕ) → (IsCounted b true p ⊎ IsCounted b false p) ↔ (IsKeptIn (kept_paths b) p × IsWithEdge p)
  kept_counted p = (
    λ h. elim h [ inl c ↦ there true c | inr c ↦ there false c ],
    λ h. (
        let k = (kept_live b p).0 h.0 in
        let edge : HasAnEdge b.arena k.0 =
        edge_of_long b.arena k.0 was.arena k.1 (subst (λ q. 1 < length q) (sym k.2) h.1) in
        by_mark k.0 edge k.2 (set.contains b.marked k.0) refl
        ),
  )
    where
      there : (o : Bool) → IsCounted b o p → IsKeptIn (kept_paths b) p × IsWithEdge p
      there o c = (
        (kept_live b p).1 (c.0, live_from_edge b.arena c.0 was.arena c.1, c.2),
        subst (λ q. 1 < length q) c.2
            (long_of_edge b.arena c.0 was.arena c.1),
      )

      by_mark : (id : ℕ) → HasAnEdge b.arena id → list_of b.arena id ≡ p → (o : Bool) → set.contains b.marked id ≡ o
          → IsCounted b true p ⊎ IsCounted b false p
      by_mark id edge list true e = inl (id, edge, list, e)
      by_mark id edge list false e = inr (id, edge, list, e)

  historical_counted : (p : List ℕ) → IsCounted b true p ↔ (IsHistoricalIn (kept_paths b) p × IsWithEdge p)
  historical_counted p = (
    λ c. (
      (historical_marked b p).1 (c.0, live_from_edge b.arena c.0 was.arena c.1, c.2, c.3),
      subst (λ q. 1 < length q)
          c.2 (long_of_edge b.arena c.0 was.arena c.1),
    ),
    λ h. (let k = (historical_marked b p).0 h.0 in
        (k.0, edge_of_long b.arena k.0 was.arena k.1 (subst (λ q. 1 < length q) (sym k.2) h.1), k.2, k.3)),
  )

  apart : (p : List ℕ) → IsCounted b true p → IsCounted b false p → ⊥
  apart p c d =
      let same : c.0 ≡ d.0 =
      was.once c.0 d.0 (live_from_edge b.arena c.0 was.arena c.1) (live_from_edge b.arena d.0 was.arena d.1)
      (c.2 ∙ sym d.2) in
      true≢false (sym c.3 ∙ ap (set.contains b.marked) same ∙ d.3)

  pub paths_count : (m n : ℕ) → CountIs (IsCounted b true) m → CountIs (IsCounted b false) n → PathsCount b (m + n)
  paths_count m n c d =
      count_same (λ p. IsCounted b true p ⊎ IsCounted b false p) (λ p. IsKeptIn (kept_paths b) p × IsWithEdge p) (m + n)
      kept_counted
      (count_either (IsCounted b true) (IsCounted b false) m n apart c d)

  pub historical_count : (m : ℕ) → CountIs (IsCounted b true) m → HistoricalCount b m
  historical_count m c =
      count_same (IsCounted b true) (λ p. IsHistoricalIn (kept_paths b) p × IsWithEdge p) m historical_counted c

-- ---- the least of a pair

last_of_one : (v x y : ℕ) (p : List ℕ) → p ≡ v ∷ [] → first p ≡ Some x → last p ≡ Some y → x ≡ y
last_of_one v x y p e f l =
    let one : Some v ≡ Some x = sym (ap first e) ∙ f in
    let two : Some v ≡ Some y = sym (ap last e) ∙ l in
    cc

pub least_kept : (b : Book) (held : Heaps) (historical pending x y : ℕ) → IsStored b held historical pending → x ≢ y
    → (o : Option ℕ) → IfSome o (IsLeastHeld held x y) → IsNone o ↔ (held_at held x y ≡ [])
    → MatchOption o (KeepsNone b x y) (IsLeastKeptId b x y)
least_kept b held historical pending x y stored apart None least none = λ q live ends. (
    let c : Contains (held_at held x y) q = held_of q live ends in
    let empty : held_at held x y ≡ [] = none.0 refl in
    in_nil q (subst (λ xs. Contains xs q) empty c)
    )
  where
    held_of : (q : ℕ) → IsLive b.arena q → HasEnds b.arena q x y → Contains (held_at held x y) q
    held_of q live ends = elim (single_or_edge b.arena q stored.book.arena live) [
      | inl one ↦ absurd (apart (last_of_one one.0 x y (list_of b.arena q) one.3 ends.0 ends.1))
      | inr edge ↦ stored.heaps.held q x y edge ends
    ]
least_kept b held historical pending x y stored apart (Some id) least none = record {
  live = stored.heaps.fits.live x y id least.held;
  ends = stored.heaps.fits.ends x y id least.held;
  least = λ q live ends below. least.least b.arena stored.heaps.fits q (held_of q live ends) below;
}
  where
    held_of : (q : ℕ) → IsLive b.arena q → HasEnds b.arena q x y → Contains (held_at held x y) q
    held_of q live ends = elim (single_or_edge b.arena q stored.book.arena live) [
      | inl one ↦ absurd (apart (last_of_one one.0 x y (list_of b.arena q) one.3 ends.0 ends.1))
      | inr edge ↦ stored.heaps.held q x y edge ends
    ]

-- a path from a vertex to itself is the single vertex
pub simple_turn : (x : ℕ) (p : List ℕ) → IsSimple p → first p ≡ Some x → last p ≡ Some x → p ≡ x ∷ []
simple_turn x [] simple f l = cc
simple_turn x (y ∷ []) simple f l = (let same : y ≡ x = cc in ap (λ z. z ∷ []) same)
simple_turn x (y ∷ z ∷ p) simple f l =
    let same : y ≡ x = cc in
    absurd (simple.0 (subst (Contains (z ∷ p)) (sym same) (last_stands (z ∷ p) x l)))
  where
    last_stands : (p : List ℕ) (u : ℕ) → last p ≡ Some u → Contains p u
    last_stands [] u e = cc
    last_stands (v ∷ []) u e = head_in u v [] (let two : Some v ≡ Some u = e in cc)
    last_stands (v ∷ w ∷ p) u e = tail_in u v (w ∷ p) (last_stands (w ∷ p) u e)

-- a path with an edge has two ends
pub ends_apart : (b : Book) → IsBook b → (id x y : ℕ) → HasAnEdge b.arena id → HasEnds b.arena id x y → x ≢ y
ends_apart b was id x y edge ends same =
    let live = live_from_edge b.arena id was.arena edge in
    let p = live_path b.arena id live in
    let list : list_of b.arena id ≡ p.0.list = ap (λ r. r.list) (path_of_at b.arena id p.0 p.1) in
    let simple : IsSimple (list_of b.arena id) = subst IsSimple (sym list) (was.arena.paths id p.0 p.1).simple in
    let one : list_of b.arena id ≡ x ∷ [] =
    simple_turn x (list_of b.arena id) simple ends.0 (ends.1 ∙ ap Some (sym same)) in
    omega (arith, ap length one, long_of_edge b.arena id was.arena edge)

-- what the heaps tell of a path that is new in them
pub tells_kept : (b : Book) (held old : Heaps) (historical pending x y id : ℕ) (told : Bool)
    → IsStored b held historical pending → TellsLeast b.arena told held old id x y → (IsHeld old id → ⊥)
    → TellsLeastKept b x y id told
tells_kept b held old historical pending x y id told stored tells new = record {
  yes = λ e. least id (tells.yes e);
  no = λ e. (let q = tells.no e in (
    q.0,
    λ same. new (x, y, subst (Contains (held_at old x y)) same q.2.held),
    least q.0
        q.1,
  ));
}
  where
    least : (q : ℕ) → IsLeastIn b.arena held x y q → IsLeastKeptId b x y q
    least q l = record {
      live = stored.heaps.fits.live x y q l.held;
      ends = stored.heaps.fits.ends x y q l.held;
      least = λ r live ends below. l.least r (held_of r live ends) below;
    }
      where
        apart : x ≢ y
        apart = ends_apart b stored.book q x y (stored.heaps.only q x y l.held) (stored.heaps.fits.ends x y q l.held)

        held_of : (r : ℕ) → IsLive b.arena r → HasEnds b.arena r x y → Contains (held_at held x y) r
        held_of r live ends = elim (single_or_edge b.arena r stored.book.arena live) [
          | inl one ↦ absurd (apart (last_of_one one.0 x y (list_of b.arena r) one.3 ends.0 ends.1))
          | inr edge ↦ stored.heaps.held r x y edge ends
        ]

pub least_single : (b : Book) → IsBook b → (x : ℕ) → x < b.arena.vertices → IsLeastKeptId b x x (vertex_of b.arena x)
least_single b was x l =
    let there : path_of b.arena (vertex_of b.arena x) ≡ single x =
    path_of_at b.arena (vertex_of b.arena x) (single x) (was.arena.singles x l) in
    let live : IsLive b.arena (vertex_of b.arena x) =
    live_from b.arena (vertex_of b.arena x) (single x) (was.arena.singles x l) in
    record {
      live = live;
      ends = (ap (λ p. first p.list) there, ap (λ p. last p.list) there);
      least = λ q live_q ends below. (
          let p = live_path b.arena q live_q in
          let list : list_of b.arena q ≡ p.0.list = ap (λ r. r.list) (path_of_at b.arena q p.0 p.1) in
          let simple : IsSimple (list_of b.arena q) = subst IsSimple (sym list) (was.arena.paths q p.0 p.1).simple in
          let one : list_of b.arena q ≡ x ∷ [] = simple_turn x (list_of b.arena q) simple ends.0 ends.1 in
          let same : q ≡ vertex_of b.arena x =
          was.once q (vertex_of b.arena x) live_q live (one ∙ sym (ap (λ r. r.list) there)) in
          not_below_itself b.arena (vertex_of b.arena x)
          (subst (λ j. id_cmp b.arena j (vertex_of b.arena x) ≡ Less) same below)
          );
    }

-- a path that is not historical has an edge
pub pending_has_edge : (b : Book) (id : ℕ) → IsBook b → IsLive b.arena id → (IsMarked b id → ⊥) → HasAnEdge b.arena id
pending_has_edge b id was live pending = elim (single_or_edge b.arena id was.arena live) [
  | inl one ↦ absurd (pending (subst (IsMarked b) (sym one.2) (was.singles one.0 one.1)))
  | inr edge ↦ edge
]
