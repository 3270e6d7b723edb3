-- A book with one kept path less.
use Rattle.std.specs.Prelude.{◌≡◌, ◌≢◌, ℕ, ◌+◌, ◌-◌, ◌^◌, ◌<◌, ◌≤◌, ◌↔◌, Bool, true, false, IsTrue, ◌==◌, if◌then◌else◌, List, [], ◌∷◌, Option, Some, IsSome, is_some, unwrap_or, refl, Contains}
use Rattle.std.specs.FinMap as map
use Rattle.std.specs.FinSet as set
use Rattle.std.proofs.Common.{sym, ◌∙◌, ap, subst, arith, inl, inr}
use Rattle.std.proofs.lemmas.Bool.{cases_eq, false≢true, true≢false, eq-eqb}
use Rattle.apsp_model.specs.Walk.{first, last}
use Rattle.apsp_model.specs.Counts.{CountIs}
use Rattle.apsp_model.proofs.Members.{in_nil, head_in}
use Rattle.apsp_model.proofs.Counting.{count_same}
use Rattle.path_arena.specs.Arena.{Path, Arena, vertex_of, IsLive, no_path, path_of, list_of, left_of, right_of, HasAnEdge, single, without_path, IsPartOfNone, IsArena}
use Rattle.path_arena.proofs.Keys.{get_gone, get_gone_other}
use Rattle.path_arena.proofs.Paths.{IsArena-without, live_from_edge, path_of_at}
use Rattle.pair_heaps.specs.Heaps.{Heaps, held_at, HeapsFit, HasEnds, IsHeld, IsRemoved, AgreeOnHeapIds}
use Rattle.pair_heaps.proofs.Fits.{fits_agree}
use Rattle.extension_lists.specs.Known.{Sides, Known, no_sides, IsKnown, sides_at, IsDropped, IsLeft, StandsOnlyAt}
use Rattle.path_book.specs.Book.{Book, IsMarked, left_id, right_id, HasExtensions, IsBook, IsForgotten}
use Rattle.path_book.specs.Layout.{marked_in, mark_at, HoldsPaths, IsCounted, IsStored}
use Rattle.path_book.proofs.Places.{contains-marked_in}
use Rattle.path_book.proofs.Sets.{marked_gone, marked_gone_other}
use Rattle.path_book.proofs.Sides.{shrunk, part_taken}
use Rattle.path_book.proofs.Counts.{count_less}
use Rattle.path_book.proofs.Admitting.{ends_of}
use Rattle.path_book.proofs.Formed.{same_pair, ends_alike}
use Rattle.path_book.proofs.Promoted.{left_is, right_is}

-- ---- what taking the id out asks for

nothing_in : (xs : List ℕ) → ((q : ℕ) → Contains xs q → ⊥) → xs ≡ []
nothing_in [] none = refl
nothing_in (x ∷ xs) none = absurd (none x (head_in x x xs refl))

pub empty_lists : (b : Book) (id : ℕ) → IsBook b → IsPartOfNone b.arena id → sides_at b.lists id ≡ no_sides
empty_lists b id was free =
    let left = nothing_in (sides_at b.lists id).left (λ q c. free.right q ((was.extensions.left id q).0 c)) in
    let right = nothing_in (sides_at b.lists id).right (λ q c. free.left q ((was.extensions.right id q).0 c)) in
    let left_star =
    nothing_in (sides_at b.lists id).left_star (λ q c. free.right q ((was.extensions.left_star id q).0 c).0) in
    let right_star =
    nothing_in (sides_at b.lists id).right_star (λ q c. free.left q ((was.extensions.right_star id q).0 c).0) in
    λ i. record { left = left i; right = right i; left_star = left_star i; right_star = right_star i }

pub stands_only : (b : Book) (id l r : ℕ) → IsBook b → left_of b.arena id ≡ Some l → right_of b.arena id ≡ Some r
    → StandsOnlyAt b.lists id l r
stands_only b id l r was left right = record {
  left = λ k c. at_right k ((was.extensions.left k id).0 c);
  right = λ k c. at_left k ((was.extensions.right k id).0 c);
  left_star = λ k c. at_right k ((was.extensions.left_star k id).0 c).0;
  right_star = λ k c. at_left k ((was.extensions.right_star k id).0 c).0;
}
  where
    at_left : (k : ℕ) → left_of b.arena id ≡ Some k → k ≡ l
    at_left k e = let two : Some k ≡ Some l = sym e ∙ left in cc

    at_right : (k : ℕ) → right_of b.arena id ≡ Some k → k ≡ r
    at_right k e = let two : Some k ≡ Some r = sym e ∙ right in cc

pub is_held : (b : Book) (h : Heaps) (id : ℕ) → IsBook b → HoldsPaths b.arena h → HasAnEdge b.arena id → IsHeld h id
is_held b h id was holds edge =
    let ends = ends_of b.arena id was.arena edge in
    (ends.0, ends.1, holds.held id ends.0 ends.1 edge ends.2)

-- ---- what is left

-- what holds of a book whatever its lists are
pub record IsBookButLists (b : Book) : Type 0 where
  pub arena : IsArena b.arena
  pub once : (i j : ℕ) → IsLive b.arena i → IsLive b.arena j → list_of b.arena i ≡ list_of b.arena j → i ≡ j
  pub marked_live : (id : ℕ) → IsMarked b id → IsLive b.arena id
  pub singles : (v : ℕ) → v < b.arena.vertices → IsMarked b (vertex_of b.arena v)
  pub left_marked : (id l : ℕ) → left_of b.arena id ≡ Some l → IsMarked b l
  pub right_marked : (id r : ℕ) → right_of b.arena id ≡ Some r → IsMarked b r

pub record IsStoredButLists (b : Book) (held : Heaps) (historical pending : ℕ) : Type 0 where
  pub book : IsBookButLists b
  pub heaps : HoldsPaths b.arena held
  pub historical_count : CountIs (IsCounted b true) historical
  pub pending_count : CountIs (IsCounted b false) pending
  pub most : historical + pending ≤ 2 ^ 48

pub but_lists : (b : Book) → IsBook b → IsBookButLists b
but_lists b was = record {
  arena = was.arena;
  once = was.once;
  marked_live = was.marked_live;
  singles = was.singles;
  left_marked = was.left_marked;
  right_marked = was.right_marked;
}

pub stored_but_lists : (b : Book) (held : Heaps) (historical pending : ℕ) → IsStored b held historical pending
    → IsStoredButLists b held historical pending
stored_but_lists b held historical pending stored = record {
  book = but_lists b stored.book;
  heaps = stored.heaps;
  historical_count = stored.historical_count;
  pending_count = stored.pending_count;
  most = stored.most;
}

pub with_lists : (b : Book) → IsBookButLists b → HasExtensions b.arena b.marked b.lists → IsBook b
with_lists b was extensions = record {
  arena = was.arena;
  once = was.once;
  marked_live = was.marked_live;
  singles = was.singles;
  left_marked = was.left_marked;
  right_marked = was.right_marked;
  extensions = extensions;
}

pub stored_with_lists : (b : Book) (held : Heaps) (historical pending : ℕ) → IsStoredButLists b held historical pending
    → HasExtensions b.arena b.marked b.lists → IsStored b held historical pending
stored_with_lists b held historical pending stored extensions = record {
  book = with_lists b stored.book extensions;
  heaps = stored.heaps;
  historical_count = stored.historical_count;
  pending_count = stored.pending_count;
  most = stored.most;
}

module _ (b : Book) (id : ℕ) (lists : Known) (was : IsBookButLists b) (edge : HasAnEdge b.arena id)
    (free : IsPartOfNone b.arena id) where
  abbrev pub left_over : Book
  left_over = record { arena = without_path b.arena id; marked = set.remove b.marked id; lists = lists }

  path_of_old : (q : ℕ) → q ≢ id → path_of (without_path b.arena id) q ≡ path_of b.arena q
  path_of_old q apart = ap (λ o. unwrap_or o no_path) (get_gone_other b.arena.paths id q apart)

  pub live_left : (q : ℕ) → IsLive (without_path b.arena id) q ↔ (IsLive b.arena q × (q ≢ id))
  live_left q = elim (cases_eq q id) [
    | inl same ↦ (
      λ h. absurd (false≢true (sym (ap is_some
          (ap (map.get (map.remove b.arena.paths id)) same ∙ get_gone b.arena.paths id)) ∙ h)),
      λ h. absurd (h.1 same),
    )
    | inr apart ↦ (
      λ h. (sym (ap is_some (get_gone_other b.arena.paths id q apart)) ∙ h, apart),
      λ h. ap is_some (get_gone_other b.arena.paths id q apart) ∙ h.0,
    )
  ]

  pub marked_left : (q : ℕ) → IsTrue (set.contains (set.remove b.marked id) q) ↔ (IsMarked b q × (q ≢ id))
  marked_left q = elim (cases_eq q id) [
    | inl same ↦ (
      λ h. absurd (false≢true (sym (ap (set.contains (set.remove b.marked id)) same ∙ marked_gone b.marked id) ∙ h)),
      λ h. absurd (h.1 same),
    )
    | inr apart ↦ (
      λ h. (sym (marked_gone_other b.marked id q apart) ∙ h, apart),
      λ h. marked_gone_other b.marked id q apart ∙ h.0,
    )
  ]

  live_id : IsLive b.arena id
  live_id = live_from_edge b.arena id was.arena edge

  -- ---- the book

  single_apart : (v : ℕ) → v < b.arena.vertices → vertex_of b.arena v ≢ id
  single_apart v l same =
      let there : path_of b.arena (vertex_of b.arena v) ≡ single v =
      path_of_at b.arena (vertex_of b.arena v) (single v) (was.arena.singles v l) in
      false≢true (subst (λ (p : Path). IsSome p.left) there (subst (HasAnEdge b.arena) (sym same) edge))

  pub book_left : IsBookButLists left_over
  book_left = record {
    arena = IsArena-without b.arena id was.arena edge free;
    once = λ i j live_i live_j same. (
        let old_i = (live_left i).0 live_i in
        let old_j = (live_left j).0 live_j in
        was.once i j old_i.0 old_j.0 (sym (ap (λ p. p.list) (path_of_old i old_i.1)) ∙ same
        ∙ ap (λ p. p.list) (path_of_old j old_j.1))
        );
    marked_live = λ q mark. (let old = (marked_left q).0 mark in (live_left q).1 (was.marked_live q old.0, old.1));
    singles = λ v l. (marked_left (vertex_of b.arena v)).1 (was.singles v l, single_apart v l);
    left_marked = λ q k is. (
        let old = (part_taken (λ p. p.left) refl b.arena id k q).0 is in
        (marked_left k).1 (was.left_marked q k old.0, λ same. free.left q (old.0 ∙ ap Some same))
        );
    right_marked = λ q k is. (
        let old = (part_taken (λ p. p.right) refl b.arena id k q).0 is in
        (marked_left k).1 (was.right_marked q k old.0, λ same. free.right q (old.0 ∙ ap Some same))
        );
  }

  -- ---- the heaps

  pub edge_left : (q : ℕ) → HasAnEdge (without_path b.arena id) q ↔ (HasAnEdge b.arena q × (q ≢ id))
  edge_left q = elim (cases_eq q id) [
    | inl same ↦ (
      λ h. absurd (false≢true (sym (ap (λ o. is_some (unwrap_or o no_path).left)
          (ap (map.get (map.remove b.arena.paths id)) same ∙ get_gone b.arena.paths id)) ∙ h)),
      λ h. absurd (h.1 same),
    )
    | inr apart ↦ (
      λ h. (subst (λ (p : Path). IsSome p.left) (path_of_old q apart) h, apart),
      λ h. subst (λ (p : Path). IsSome p.left) (sym (path_of_old q apart)) h.0,
    )
  ]

  pub heaps_left : (h k : Heaps) → HoldsPaths b.arena h → HeapsFit k b.arena
      → ((x y : ℕ) → HasEnds b.arena id x y → IsRemoved h k id x y) → HoldsPaths (without_path b.arena id) k
  heaps_left h k holds fits removed =
      record { fits = fits_agree k b.arena (without_path b.arena id) fits agree; held = held; only = only }
    where
      ends : (x : ℕ) × (y : ℕ) × HasEnds b.arena id x y
      ends = ends_of b.arena id was.arena edge

      gone : IsRemoved h k id ends.0 ends.1
      gone = removed ends.0 ends.1 ends.2

      others : (u v : ℕ) → (u ≡ ends.0 → v ≡ ends.1 → ⊥) → held_at k u v ≡ held_at h u v
      others u v apart = ap (λ s. s.held) (gone.only.others u v apart)

      -- what is held now was held, and is not the id
      before : (q x y : ℕ) → Contains (held_at k x y) q → Contains (held_at h x y) q × (q ≢ id)
      before q x y c = elim (same_pair ends.0 ends.1 x y) [
        | inl there ↦
            let at_pair : Contains (held_at k ends.0 ends.1) q =
            subst (λ u. Contains (held_at k u ends.1) q) there.0 (subst (λ v. Contains (held_at k x v) q) there.1 c)
            in
            let old = (gone.held.ids q).0 at_pair in (
              subst (λ u. Contains (held_at h u y) q) (sym there.0)
                  (subst (λ v. Contains (held_at h ends.0 v) q) (sym there.1) old.0),
              old.1,
            )
        | inr other ↦
            let old : Contains (held_at h x y) q = subst (λ xs. Contains xs q) (others x y other) c in (
              old,
              λ same. (let e = ends_alike b.arena id ends.0 ends.1 x y ends.2
                  (subst (λ j. HasEnds b.arena j x y) same (holds.fits.ends x y q old)) in other e.0 e.1),
            )
      ]

      agree : AgreeOnHeapIds k b.arena (without_path b.arena id)
      agree = record {
        vertices = refl;
        live = λ q is. (live_left q).1 (fits.live is.0 is.1 q is.2, (before q is.0 is.1 is.2).1);
        lists = λ q is. ap (λ p. p.list) (path_of_old q (before q is.0 is.1 is.2).1);
        weights = λ q is. ap (λ p. p.weight) (path_of_old q (before q is.0 is.1 is.2).1);
      }

      held : (q x y : ℕ) → HasAnEdge (without_path b.arena id) q → HasEnds (without_path b.arena id) q x y
          → Contains (held_at k x y) q
      held q x y has e =
          let old = (edge_left q).0 has in
          let old_ends : HasEnds b.arena q x y = (
            sym (ap (λ s. first s.list) (path_of_old q old.1))
                ∙ e.0,
            sym (ap (λ s. last s.list) (path_of_old q old.1)) ∙ e.1,
          ) in
          let was_held : Contains (held_at h x y) q = holds.held q x y old.0 old_ends in
          elim (same_pair ends.0 ends.1 x y) [
            | inl there ↦
                let at_pair : Contains (held_at h ends.0 ends.1) q =
                subst (λ u. Contains (held_at h u ends.1) q) there.0
                (subst (λ v. Contains (held_at h x v) q) there.1 was_held) in
                let now : Contains (held_at k ends.0 ends.1) q = (gone.held.ids q).1 (at_pair, old.1) in
                subst (λ u. Contains (held_at k u y) q) (sym there.0)
                (subst (λ v. Contains (held_at k ends.0 v) q) (sym there.1) now)
            | inr other ↦ subst (λ xs. Contains xs q) (sym (others x y other)) was_held
          ]

      only : (q x y : ℕ) → Contains (held_at k x y) q → HasAnEdge (without_path b.arena id) q
      only q x y c = let old = before q x y c in (edge_left q).1 (holds.only q x y old.0, old.1)

  -- ---- the counts

  counted_left : (historical : Bool) (q : List ℕ)
      → IsCounted left_over historical q ↔ (IsCounted b historical q × (q ≡ list_of b.arena id → ⊥))
  counted_left historical q = (
    λ h. (
        let old = (edge_left h.0).0 h.1 in
        let list : list_of b.arena h.0 ≡ q = sym (ap (λ p. p.list) (path_of_old h.0 old.1)) ∙ h.2 in (
          (h.0, old.0, list, sym (marked_gone_other b.marked id h.0 old.1) ∙ h.3),
          λ same. old.1
              (was.once h.0 id (live_from_edge b.arena h.0 was.arena old.0) live_id (list ∙ same)),
        )
        ),
    λ h. (
        let apart : h.0.0 ≢ id = λ same. h.1 (sym h.0.2 ∙ ap (list_of b.arena) same) in (
          h.0.0,
          (edge_left h.0.0).1 (h.0.1, apart),
          ap (λ p. p.list) (path_of_old h.0.0 apart)
              ∙ h.0.2,
          marked_gone_other b.marked id h.0.0 apart ∙ h.0.3,
        )
        ),
  )

  -- the count of the id's own kind falls, and the other stays
  pub own_count_left : (historical : Bool) (n : ℕ) → set.contains b.marked id ≡ historical
      → CountIs (IsCounted b historical) n → (1 ≤ n) × CountIs (IsCounted left_over historical) (n - 1)
  own_count_left historical n is c =
      count_less (IsCounted b historical) (IsCounted left_over historical) n (list_of b.arena id) (id, edge, refl, is)
      (counted_left historical) c

  pub other_count_left : (historical : Bool) (n : ℕ) → (set.contains b.marked id ≡ historical → ⊥)
      → CountIs (IsCounted b historical) n → CountIs (IsCounted left_over historical) n
  other_count_left historical n is_not c =
      count_same (IsCounted b historical) (IsCounted left_over historical) n
      (λ q. (
        λ h. (counted_left historical q).1 (
          h,
          λ same. is_not (
              let e : h.0 ≡ id = was.once h.0 id (live_from_edge b.arena h.0 was.arena h.1) live_id (h.2 ∙ same) in
              sym (ap (set.contains b.marked) e) ∙ h.3
              ),
        ),
        λ h. ((counted_left historical q).0 h).0,
      )) c

  pub some_of_kind : (historical pending : ℕ) → CountIs (IsCounted b true) historical
      → CountIs (IsCounted b false) pending → (mark : Bool) → set.contains b.marked id ≡ mark
      → 1 ≤ (if mark then historical else pending)
  some_of_kind historical pending counted waiting true is = (own_count_left true historical is counted).0
  some_of_kind historical pending counted waiting false is = (own_count_left false pending is waiting).0

  pub stored_left : (h k : Heaps) (historical pending : ℕ) → IsStoredButLists b h historical pending
      → HeapsFit k b.arena → ((x y : ℕ) → HasEnds b.arena id x y → IsRemoved h k id x y) → (mark : Bool)
      → set.contains b.marked id ≡ mark → (1 ≤ (if mark then historical else pending))
      × IsStoredButLists left_over k (if mark then historical - 1 else historical)
      (if mark then pending else pending - 1)
  stored_left h k historical pending stored fits removed true is =
      let own = own_count_left true historical is stored.historical_count in
      let some : 1 ≤ historical = own.0 in
      let most : historical + pending ≤ 2 ^ 48 = stored.most in (
        some,
        record {
          book = book_left;
          heaps = heaps_left h k stored.heaps fits removed;
          historical_count = own.1;
          pending_count = other_count_left false pending (λ e. true≢false (sym is ∙ e)) stored.pending_count;
          most = omega arith;
        },
      )
  stored_left h k historical pending stored fits removed false is =
      let own = own_count_left false pending is stored.pending_count in
      let some : 1 ≤ pending = own.0 in
      let most : historical + pending ≤ 2 ^ 48 = stored.most in (
        some,
        record {
          book = book_left;
          heaps = heaps_left h k stored.heaps fits removed;
          historical_count = other_count_left true historical (λ e. false≢true (sym is ∙ e)) stored.historical_count;
          pending_count = own.1;
          most = omega arith;
        },
      )

  -- ---- the lists, where the id is taken out of two of them

  module _ (extensions : HasExtensions b.arena b.marked b.lists)
      (dropped : IsDropped b.lists lists id (left_id (path_of b.arena id)) (right_id (path_of b.arena id))) where
    known_left_over : (q : ℕ) → IsKnown lists q ↔ IsLive (without_path b.arena id) q
    known_left_over q = elim (cases_eq q id) [
      | inl same ↦ (
        λ h. absurd (false≢true (sym (ap is_some (ap (map.get lists) same ∙ dropped.forgotten)) ∙ h)),
        λ h. absurd (((live_left q).0 h).1 same),
      )
      | inr apart ↦ (
        λ h. (live_left q).1 ((extensions.known q).0 (sym (dropped.known q apart) ∙ h), apart),
        λ h. dropped.known q apart ∙ (extensions.known q).1 ((live_left q).0 h).0,
      )
    ]

    -- a list of the id itself, and of another one
    side : (proj : Sides → List ℕ) (part : Path → Option ℕ) (key : ℕ) (Old New : ℕ → ℕ → Type 0) → proj no_sides ≡ []
        → part (path_of b.arena id) ≡ Some key → ((k q : ℕ) → Old k q → part (path_of b.arena q) ≡ Some k)
        → ((q : ℕ) → Old id q → ⊥) → ((k q : ℕ) → Contains (proj (sides_at b.lists k)) q ↔ Old k q)
        → ((k q : ℕ) → New k q ↔ (Old k q × (q ≢ id)))
        → ((k : ℕ) → k ≢ id → IsLeft (k == key) id (proj (sides_at b.lists k)) (proj (sides_at lists k))) → (k q : ℕ)
        → Contains (proj (sides_at lists k)) q ↔ New k q
    side proj part key Old New empty is means none old new left k q = elim (cases_eq k id) [
      | inl same ↦
          let gone : proj (sides_at lists k) ≡ [] =
          ap (λ o. proj (unwrap_or o no_sides)) (ap (map.get lists) same ∙ dropped.forgotten) ∙ empty in (
            λ c. absurd (in_nil q (subst (λ xs. Contains xs q) gone c)),
            λ h. absurd (none q (subst (λ j. Old j q) same ((new k q).0 h).0)),
          )
      | inr apart ↦
          shrunk (proj (sides_at b.lists k)) (proj (sides_at lists k)) id (k == key) (Old k) (New k) (left k apart)
          (old k) (new k)
          (λ here h. (let two : Some k ≡ Some key = sym (means k id h) ∙ is in let same : k ≡ key = cc in
          true≢false (sym (eq-eqb k key same) ∙ here))) q
    ]

    pub extensions_left : HasExtensions (without_path b.arena id) (set.remove b.marked id) lists
    extensions_left = record {
      known = known_left_over;
      left = side (λ s. s.left) (λ p. p.right) (right_id (path_of b.arena id)) (λ k q. right_of b.arena q ≡ Some k)
          (λ k q. right_of (without_path b.arena id) q ≡ Some k) refl (right_is b id (with_lists b was extensions) edge)
          (λ k q h. h) free.right extensions.left (λ k q. part_taken (λ p. p.right) refl b.arena id k q) dropped.left;
      right = side (λ s. s.right) (λ p. p.left) (left_id (path_of b.arena id)) (λ k q. left_of b.arena q ≡ Some k)
          (λ k q. left_of (without_path b.arena id) q ≡ Some k) refl (left_is b id (with_lists b was extensions) edge)
          (λ k q h. h) free.left extensions.right (λ k q. part_taken (λ p. p.left) refl b.arena id k q) dropped.right;
      left_star =
          side (λ s. s.left_star) (λ p. p.right) (right_id (path_of b.arena id))
          (λ k q. (right_of b.arena q ≡ Some k) × IsMarked b q)
          (λ k q. (right_of (without_path b.arena id) q ≡ Some k) × IsTrue (set.contains (set.remove b.marked id) q))
          refl (right_is b id (with_lists b was extensions) edge) (λ k q h. h.0) (λ q h. free.right q h.0)
          extensions.left_star (λ k q. both (part_taken (λ p. p.right) refl b.arena id k q) (marked_left q))
          dropped.left_star;
      right_star =
          side (λ s. s.right_star) (λ p. p.left) (left_id (path_of b.arena id))
          (λ k q. (left_of b.arena q ≡ Some k) × IsMarked b q)
          (λ k q. (left_of (without_path b.arena id) q ≡ Some k) × IsTrue (set.contains (set.remove b.marked id) q))
          refl (left_is b id (with_lists b was extensions) edge) (λ k q h. h.0) (λ q h. free.left q h.0)
          extensions.right_star (λ k q. both (part_taken (λ p. p.left) refl b.arena id k q) (marked_left q))
          dropped.right_star;
    }
      where
        both : {A B P Q R : Type 0} → (A ↔ (P × R)) → (B ↔ (Q × R)) → (A × B) ↔ ((P × Q) × R)
        both f g = (
          λ h. (((f.0 h.0).0, (g.0 h.1).0), (f.0 h.0).1),
          λ h. (f.1 (h.0.0, h.1), g.1 (h.0.1, h.1)),
        )

-- what the parts of a book are after a path is forgotten, where its mark was this
pub record LeftOver (b : Book) (id : ℕ) (heaps : Heaps) (arena : Arena) (lists : Known) (marks : List Bool)
    (historical pending : ℕ) (mark : Bool) : Type 0 where
  pub some : 1 ≤ (if mark then historical else pending)
  pub stored : IsStored (record { arena = arena; marked = marked_in marks; lists = lists }) heaps
      (if mark then historical - 1 else historical) (if mark then pending else pending - 1)
  pub forgotten : IsForgotten b (record { arena = arena; marked = marked_in marks; lists = lists }) id

-- the same whatever the lists are
pub record LeftOverButLists (b : Book) (id : ℕ) (heaps : Heaps) (arena : Arena) (lists : Known) (marks : List Bool)
    (historical pending : ℕ) (mark : Bool) : Type 0 where
  pub some : 1 ≤ (if mark then historical else pending)
  pub stored : IsStoredButLists (record { arena = arena; marked = marked_in marks; lists = lists }) heaps
      (if mark then historical - 1 else historical) (if mark then pending else pending - 1)
  pub arena_is : arena ≡ without_path b.arena id
  pub marked_is : marked_in marks ≡ set.remove b.marked id

pub left_but_lists : (b : Book) (id key : ℕ) (h k : Heaps) (arena : Arena) (lists : Known) (before after : List Bool)
    (historical pending : ℕ) (mark : Bool) → IsStoredButLists b h historical pending → HasAnEdge b.arena id
    → IsPartOfNone b.arena id → marked_in before ≡ b.marked → key ≡ id → arena ≡ without_path b.arena id
    → HeapsFit k b.arena → ((x y : ℕ) → HasEnds b.arena id x y → IsRemoved h k id x y) → mark ≡ mark_at before key
    → marked_in after ≡ set.remove (marked_in before) key
    → LeftOverButLists b id k arena lists after historical pending mark
left_but_lists b id key h k arena lists before after historical pending mark stored edge free marks here taken fits
    removed was cleared =
    let marked : marked_in after ≡ set.remove b.marked id = cleared ∙ (λ i. set.remove (marks i) (here i)) in
    let is_mark : set.contains b.marked id ≡ mark =
    sym (λ i. set.contains (marks i) (here i)) ∙ contains-marked_in before key ∙ sym was in
    let both = stored_left b id lists stored.book edge free h k historical pending stored fits removed mark is_mark in
    let books : ◌≡◌ {A = Book} (record { arena = arena; marked = marked_in after; lists = lists })
    (record { arena = without_path b.arena id; marked = set.remove b.marked id; lists = lists })
    = (λ i. record { arena = taken i; marked = marked i; lists = lists }) in
    record {
      some = both.0;
      stored = subst (λ c. IsStoredButLists c k (if mark then historical - 1 else historical)
          (if mark then pending else pending - 1)) (sym books) both.1;
      arena_is = taken;
      marked_is = marked;
    }

pub left_over_now : (b : Book) (id key : ℕ) (h k : Heaps) (arena : Arena) (l r : ℕ) (lists : Known)
    (before after : List Bool) (historical pending : ℕ) (mark : Bool) → IsStored b h historical pending
    → HasAnEdge b.arena id → IsPartOfNone b.arena id → marked_in before ≡ b.marked → key ≡ id
    → arena ≡ without_path b.arena id → left_of b.arena id ≡ Some l → right_of b.arena id ≡ Some r
    → IsDropped b.lists lists id l r → HeapsFit k b.arena → ((x y : ℕ) → HasEnds b.arena id x y → IsRemoved h k id x y)
    → mark ≡ mark_at before key → marked_in after ≡ set.remove (marked_in before) key
    → LeftOver b id k arena lists after historical pending mark
left_over_now b id key h k arena l r lists before after historical pending mark stored edge free marks here taken left
    right dropped fits removed was cleared =
    let to_l : l ≡ left_id (path_of b.arena id) = ap (λ o. unwrap_or o 0) (sym left) in
    let to_r : r ≡ right_id (path_of b.arena id) = ap (λ o. unwrap_or o 0) (sym right) in
    let drops : IsDropped b.lists lists id (left_id (path_of b.arena id)) (right_id (path_of b.arena id)) =
    subst (λ x. IsDropped b.lists lists id x (right_id (path_of b.arena id))) to_l
    (subst (λ x. IsDropped b.lists lists id l x) to_r dropped) in
    let but =
    left_but_lists b id key h k arena lists before after historical pending mark
    (stored_but_lists b h historical pending stored) edge free marks here taken fits removed was cleared in
    let books : ◌≡◌ {A = Book} (record { arena = arena; marked = marked_in after; lists = lists })
    (left_over b id lists (but_lists b stored.book) edge free)
    = (λ i. record { arena = taken i; marked = but.marked_is i; lists = lists }) in
    let extensions = extensions_left b id lists (but_lists b stored.book) edge free stored.book.extensions drops in
    record {
      some = but.some;
      stored = stored_with_lists (record { arena = arena; marked = marked_in after; lists = lists }) k
          (if mark then historical - 1 else historical) (if mark then pending else pending - 1) but.stored
          (subst (λ c. HasExtensions c.arena c.marked c.lists) (sym books) extensions);
      forgotten = record { arena = taken; marked = but.marked_is; lists = drops };
    }
