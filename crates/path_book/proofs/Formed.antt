-- A book with one more kept path.
use Rattle.std.specs.Prelude.{◌≡◌, ◌≢◌, ℕ, ◌+◌, ◌^◌, ◌<◌, ◌⊎◌, ◌↔◌, Bool, true, false, ◌==◌, List, [], ◌∷◌, ◌++◌, Some, None, IsSome, is_some, unwrap_or, refl, Contains}
use Rattle.std.specs.FinMap as map
use Rattle.std.specs.FinSet as set
use Rattle.std.proofs.Common.{sym, ◌∙◌, ap, subst, arith, inl, inr}
use Rattle.std.proofs.lemmas.Bool.{cases_eq, false≢true}
use Rattle.apsp_model.specs.Walk.{first, last}
use Rattle.apsp_model.specs.Counts.{CountIs}
use Rattle.apsp_model.proofs.Counting.{count_more, count_same}
use Rattle.path_arena.specs.Arena.{Path, Arena, path_at, IsLive, no_path, path_of, list_of, left_of, right_of, HasAnEdge, with_path, IsArena}
use Rattle.path_arena.proofs.Keys.{get_put, get_put_other}
use Rattle.path_arena.proofs.Paths.{live_from, live_apart, path_of_at, live_from_edge}
use Rattle.pair_heaps.specs.Heaps.{Heaps, held_at, HasEnds, IsInserted}
use Rattle.extension_lists.specs.Known.{Sides, Known, no_sides, IsKnown, sides_at}
use Rattle.path_book.specs.Book.{Book, IsMarked, IsNewList, left_id, right_id, entered, with_kept, HasExtensions, IsBook}
use Rattle.path_book.specs.Layout.{HoldsPaths, IsCounted, IsStored}
use Rattle.path_book.specs.Admitted.{IsAdmitted}
use Rattle.path_book.proofs.Sides.{grown, part_added, sides_of_two, sides_of_two_later, sides_of_two_kept, known_put, known_two}
use Rattle.path_book.proofs.Entering.{entered_still, sides_entered}
use Rattle.path_book.proofs.Admitting.{ends_of}

-- a pair is this one or another
pub same_pair : (x y u v : ℕ) → ((u ≡ x) × (v ≡ y)) ⊎ (u ≡ x → v ≡ y → ⊥)
same_pair x y u v = elim (cases_eq u x) [
  | inl first ↦ elim (cases_eq v y) [ inl second ↦ inl (first, second) | inr apart ↦ inr (λ _ same. apart same) ]
  | inr apart ↦ inr (λ same _. apart same)
]

-- the path of a live id has these ends and no others
pub ends_alike : (a : Arena) (id x y u v : ℕ) → HasEnds a id x y → HasEnds a id u v → (u ≡ x) × (v ≡ y)
ends_alike a id x y u v e f = (
  let two : Some u ≡ Some x = sym f.0 ∙ e.0 in cc,
  let two : Some v ≡ Some y = sym f.1 ∙ e.1 in cc,
)

-- what is seen of a new path
pub record IsNew (b : Book) (id : ℕ) (p : Path) : Type 0 where
  pub fresh : path_at b.arena id ≡ None
  pub left : p.left ≡ Some (left_id p)
  pub right : p.right ≡ Some (right_id p)
  pub left_marked : IsMarked b (left_id p)
  pub right_marked : IsMarked b (right_id p)
  pub list : IsNewList b p.list
  pub arena : IsArena (with_path b.arena id p)

module _ (b : Book) (id : ℕ) (p : Path) (was : IsBook b) (new : IsNew b id p) where
  a : Arena
  a = b.arena

  -- a live id is the new one or an old one
  pub live_cases : (q : ℕ) → IsLive (with_path b.arena id p) q → (q ≡ id) ⊎ (IsLive b.arena q × (q ≢ id))
  live_cases q live = elim (cases_eq q id) [
    | inl same ↦ inl same
    | inr apart ↦ inr (sym (ap is_some (get_put_other b.arena.paths id p q apart)) ∙ live, apart)
  ]

  pub path_of_new : path_of (with_path b.arena id p) id ≡ p
  path_of_new = path_of_at (with_path b.arena id p) id p (get_put b.arena.paths id p)

  pub path_of_old : (q : ℕ) → q ≢ id → path_of (with_path b.arena id p) q ≡ path_of b.arena q
  path_of_old q apart = ap (λ o. unwrap_or o no_path) (get_put_other b.arena.paths id p q apart)

  live_new : IsLive (with_path b.arena id p) id
  live_new = live_from (with_path b.arena id p) id p (get_put b.arena.paths id p)

  pub live_old : (q : ℕ) → IsLive b.arena q → IsLive (with_path b.arena id p) q
  live_old q live = elim (cases_eq q id) [
    | inl same ↦ subst (λ j. IsLive (with_path b.arena id p) j) (sym same) live_new
    | inr apart ↦ ap is_some (get_put_other b.arena.paths id p q apart) ∙ live
  ]

  marked_apart : (q : ℕ) → IsMarked b q → q ≢ id
  marked_apart q mark = live_apart b.arena id q new.fresh (was.marked_live q mark)

  once : (i j : ℕ) → IsLive (with_path b.arena id p) i → IsLive (with_path b.arena id p) j
      → list_of (with_path b.arena id p) i ≡ list_of (with_path b.arena id p) j → i ≡ j
  once i j live_i live_j same = go (live_cases i live_i) (live_cases j live_j)
    where
      list_new : (q : ℕ) → q ≡ id → list_of (with_path b.arena id p) q ≡ p.list
      list_new q e = ap (list_of (with_path b.arena id p)) e ∙ ap (λ r. r.list) path_of_new

      list_old : (q : ℕ) → q ≢ id → list_of (with_path b.arena id p) q ≡ list_of b.arena q
      list_old q apart = ap (λ r. r.list) (path_of_old q apart)

      go : (i ≡ id) ⊎ (IsLive b.arena i × (i ≢ id)) → (j ≡ id) ⊎ (IsLive b.arena j × (j ≢ id)) → i ≡ j
      go (inl e) (inl f) = e ∙ sym f
      go (inl e) (inr f) = absurd (new.list j f.0 (sym (list_old j f.1) ∙ sym same ∙ list_new i e))
      go (inr e) (inl f) = absurd (new.list i e.0 (sym (list_old i e.1) ∙ same ∙ list_new j f))
      go (inr e) (inr f) = was.once i j e.0 f.0 (sym (list_old i e.1) ∙ same ∙ list_old j f.1)

  -- ---- the lists

  l : ℕ
  l = left_id p

  r : ℕ
  r = right_id p

  gone : IsKnown b.lists id → ⊥
  gone known = live_apart b.arena id id new.fresh ((was.extensions.known id).0 known) refl

  m1 : Known
  m1 = map.insert b.lists id no_sides

  known_now : (q : ℕ) → IsKnown (entered b.lists id (left_id p) (right_id p)) q ↔ IsLive (with_path b.arena id p) q
  unfolding m1
  known_now q =
      let old_l : IsKnown b.lists (left_id p) =
      (was.extensions.known (left_id p)).1 (was.marked_live (left_id p) new.left_marked) in
      let old_r : IsKnown b.lists (right_id p) =
      (was.extensions.known (right_id p)).1 (was.marked_live (right_id p) new.right_marked) in
      let two =
      known_two m1 (left_id p) (right_id p) (λ s. record s { right = s.right ++ id ∷ [] })
      (λ s. record s { left = s.left ++ id ∷ [] }) q (entered_still b.lists id gone (left_id p) old_l)
      (entered_still b.lists id gone (right_id p) old_r) in (
        λ h. elim ((known_put b.lists id no_sides q).0 (two.0 h)) [
          | inl before ↦ live_old q ((was.extensions.known q).0 before)
          | inr same ↦ subst (λ j. IsLive (with_path b.arena id p) j) (sym same) live_new
        ],
        λ live. two.1 ((known_put b.lists id no_sides q).1
            (elim (live_cases q live) [ inl same ↦ inr same | inr old ↦ inl ((was.extensions.known q).1 old.0) ])),
      )

  right_now : (k q : ℕ) → Contains (sides_at (entered b.lists id (left_id p) (right_id p)) k).right q ↔
      (left_of (with_path b.arena id p) q ≡ Some k)
  unfolding m1
  right_now k q =
      grown (sides_at m1 k).right (sides_at (entered b.lists id (left_id p) (right_id p)) k).right id (k == left_id p)
      (λ j. left_of b.arena j ≡ Some k) (λ j. left_of (with_path b.arena id p) j ≡ Some k)
      (sides_of_two m1 (left_id p) (right_id p) (λ s. record s { right = s.right ++ id ∷ [] })
      (λ s. record s { left = s.left ++ id ∷ [] }) (λ s. s.right) id k (λ s. refl) (λ s. refl))
      (λ j. subst (λ (s : Sides). Contains s.right j ↔ (left_of b.arena j ≡ Some k))
      (sym (sides_entered b.lists id gone k)) (was.extensions.right k j))
      (λ j. part_added (λ q. q.left) refl b.arena id (left_id p) p new.fresh new.left k j) q

  left_now : (k q : ℕ) → Contains (sides_at (entered b.lists id (left_id p) (right_id p)) k).left q ↔
      (right_of (with_path b.arena id p) q ≡ Some k)
  unfolding m1
  left_now k q =
      grown (sides_at m1 k).left (sides_at (entered b.lists id (left_id p) (right_id p)) k).left id (k == right_id p)
      (λ j. right_of b.arena j ≡ Some k) (λ j. right_of (with_path b.arena id p) j ≡ Some k)
      (sides_of_two_later m1 (left_id p) (right_id p) (λ s. record s { right = s.right ++ id ∷ [] })
      (λ s. record s { left = s.left ++ id ∷ [] }) (λ s. s.left) id k (λ s. refl) (λ s. refl))
      (λ j. subst (λ (s : Sides). Contains s.left j ↔ (right_of b.arena j ≡ Some k))
      (sym (sides_entered b.lists id gone k)) (was.extensions.left k j))
      (λ j. part_added (λ q. q.right) refl b.arena id (right_id p) p new.fresh new.right k j) q

  -- the starred lists stay
  pub right_star_stays : (k : ℕ) → (sides_at (entered b.lists id (left_id p) (right_id p)) k).right_star ≡
      (sides_at b.lists k).right_star
  unfolding m1
  right_star_stays k =
      sides_of_two_kept m1 (left_id p) (right_id p) (λ s. record s { right = s.right ++ id ∷ [] })
      (λ s. record s { left = s.left ++ id ∷ [] }) (λ s. s.right_star) k (λ s. refl) (λ s. refl)
      ∙ ap (λ s. s.right_star) (sides_entered b.lists id gone k)

  pub left_star_stays : (k : ℕ) → (sides_at (entered b.lists id (left_id p) (right_id p)) k).left_star ≡
      (sides_at b.lists k).left_star
  unfolding m1
  left_star_stays k =
      sides_of_two_kept m1 (left_id p) (right_id p) (λ s. record s { right = s.right ++ id ∷ [] })
      (λ s. record s { left = s.left ++ id ∷ [] }) (λ s. s.left_star) k (λ s. refl) (λ s. refl)
      ∙ ap (λ s. s.left_star) (sides_entered b.lists id gone k)

  -- a marked path has the parts that it had
  marked_left : (k q : ℕ) → ((left_of b.arena q ≡ Some k) × IsMarked b q) ↔
      ((left_of (with_path b.arena id p) q ≡ Some k) × IsMarked b q)
  marked_left k q = (
    λ h. (ap (λ s. s.left) (path_of_old q (marked_apart q h.1)) ∙ h.0, h.1),
    λ h. (sym (ap (λ s. s.left) (path_of_old q (marked_apart q h.1))) ∙ h.0, h.1),
  )

  marked_right : (k q : ℕ) → ((right_of b.arena q ≡ Some k) × IsMarked b q) ↔
      ((right_of (with_path b.arena id p) q ≡ Some k) × IsMarked b q)
  marked_right k q = (
    λ h. (ap (λ s. s.right) (path_of_old q (marked_apart q h.1)) ∙ h.0, h.1),
    λ h. (sym (ap (λ s. s.right) (path_of_old q (marked_apart q h.1))) ∙ h.0, h.1),
  )

  pub extensions_formed : HasExtensions (with_path b.arena id p) b.marked (entered b.lists id (left_id p) (right_id p))
  extensions_formed = record {
    known = known_now;
    left = left_now;
    right = right_now;
    left_star = λ k q. (
      λ c. (marked_right k q).0 ((was.extensions.left_star k q).0 (subst (λ xs. Contains xs q) (left_star_stays k) c)),
      λ h. subst (λ xs. Contains xs q) (sym (left_star_stays k))
          ((was.extensions.left_star k q).1 ((marked_right k q).1 h)),
    );
    right_star = λ k q. (
      λ c. (marked_left k q).0 ((was.extensions.right_star k q).0 (subst (λ xs. Contains xs q) (right_star_stays k) c)),
      λ h. subst (λ xs. Contains xs q) (sym (right_star_stays k))
          ((was.extensions.right_star k q).1 ((marked_left k q).1 h)),
    );
  }

  pub book_formed : IsBook (with_kept b id p)
  book_formed = record {
    arena = new.arena;
    once = once;
    marked_live = λ q mark. live_old q (was.marked_live q mark);
    singles = was.singles;
    left_marked =
        λ q k is. elim ((part_added (λ s. s.left) refl b.arena id (left_id p) p new.fresh new.left k q).0 is) [
          | inl before ↦ was.left_marked q k before
          | inr now ↦ (let two : Some (left_id p) ≡ Some k = sym new.left ∙ sym (ap (λ s. s.left) path_of_new)
              ∙ ap (left_of (with_path b.arena id p)) (sym now.1) ∙ is in let same : left_id p ≡ k = cc in
              subst (IsMarked b) same new.left_marked)
        ];
    right_marked =
        λ q k is. elim ((part_added (λ s. s.right) refl b.arena id (right_id p) p new.fresh new.right k q).0 is) [
          | inl before ↦ was.right_marked q k before
          | inr now ↦ (let two : Some (right_id p) ≡ Some k = sym new.right ∙ sym (ap (λ s. s.right) path_of_new)
              ∙ ap (right_of (with_path b.arena id p)) (sym now.1) ∙ is in let same : right_id p ≡ k = cc in
              subst (IsMarked b) same new.right_marked)
        ];
    extensions = extensions_formed;
  }

  pub edge_now : HasAnEdge (with_path b.arena id p) id
  edge_now = ap is_some (ap (λ s. s.left) path_of_new ∙ new.left)

  -- ---- the heaps

  pub heaps_formed : (h k : Heaps) (m n : Known) → HoldsPaths b.arena h → IsAdmitted (with_path b.arena id p) h k m n id
      → HoldsPaths (with_path b.arena id p) k
  heaps_formed h k m n holds adm = record { fits = adm.fits; held = held; only = only }
    where
      ends : (x : ℕ) × (y : ℕ) × HasEnds (with_path b.arena id p) id x y
      ends = ends_of (with_path b.arena id p) id new.arena edge_now

      put : IsInserted h k id ends.0 ends.1
      put = adm.inserted ends.0 ends.1 ends.2

      others : (u v : ℕ) → (u ≡ ends.0 → v ≡ ends.1 → ⊥) → held_at k u v ≡ held_at h u v
      others u v apart = ap (λ s. s.held) (put.only.others u v apart)

      old_edge : (q : ℕ) → q ≢ id → HasAnEdge (with_path b.arena id p) q → HasAnEdge b.arena q
      old_edge q apart edge = subst (λ (s : Path). IsSome s.left) (path_of_old q apart) edge

      new_edge : (q : ℕ) → q ≢ id → HasAnEdge b.arena q → HasAnEdge (with_path b.arena id p) q
      new_edge q apart edge = subst (λ (s : Path). IsSome s.left) (sym (path_of_old q apart)) edge

      old_ends : (q x y : ℕ) → q ≢ id → HasEnds (with_path b.arena id p) q x y → HasEnds b.arena q x y
      old_ends q x y apart e = (
        sym (ap (λ s. first s.list) (path_of_old q apart)) ∙ e.0,
        sym (ap (λ s. last s.list) (path_of_old q apart))
            ∙ e.1,
      )

      held : (q x y : ℕ) → HasAnEdge (with_path b.arena id p) q → HasEnds (with_path b.arena id p) q x y
          → Contains (held_at k x y) q
      held q x y edge e = elim (cases_eq q id) [
        | inl same ↦
            let there =
            ends_alike (with_path b.arena id p) id ends.0 ends.1 x y ends.2
            (subst (λ j. HasEnds (with_path b.arena id p) j x y) same e) in
            let at_pair : Contains (held_at k ends.0 ends.1) q = (put.held.ids q).1 (inr same) in
            subst (λ u. Contains (held_at k u y) q) (sym there.0)
            (subst (λ v. Contains (held_at k ends.0 v) q) (sym there.1) at_pair)
        | inr apart ↦
            let before : Contains (held_at h x y) q =
            holds.held q x y (old_edge q apart edge) (old_ends q x y apart e) in
            elim (same_pair ends.0 ends.1 x y) [
              | inl there ↦
                  let at_pair : Contains (held_at h ends.0 ends.1) q =
                  subst (λ u. Contains (held_at h u ends.1) q) there.0
                  (subst (λ v. Contains (held_at h x v) q) there.1 before) in
                  let now : Contains (held_at k ends.0 ends.1) q = (put.held.ids q).1 (inl at_pair) in
                  subst (λ u. Contains (held_at k u y) q) (sym there.0)
                  (subst (λ v. Contains (held_at k ends.0 v) q) (sym there.1) now)
              | inr other ↦ subst (λ xs. Contains xs q) (sym (others x y other)) before
            ]
      ]

      held_before : (q x y : ℕ) → Contains (held_at h x y) q → HasAnEdge (with_path b.arena id p) q
      held_before q x y c =
          new_edge q (live_apart b.arena id q new.fresh (holds.fits.live x y q c)) (holds.only q x y c)

      only : (q x y : ℕ) → Contains (held_at k x y) q → HasAnEdge (with_path b.arena id p) q
      only q x y c = elim (same_pair ends.0 ends.1 x y) [
        | inl there ↦
            let at_pair : Contains (held_at k ends.0 ends.1) q =
            subst (λ u. Contains (held_at k u ends.1) q) there.0 (subst (λ v. Contains (held_at k x v) q) there.1 c)
            in
            elim ((put.held.ids q).0 at_pair) [
              | inl before ↦ held_before q ends.0 ends.1 before
              | inr same ↦ subst (HasAnEdge (with_path b.arena id p)) (sym same) edge_now
            ]
        | inr other ↦ held_before q x y (subst (λ xs. Contains xs q) (others x y other) c)
      ]

  -- ---- the counts

  counted_old : (historical : Bool) (q : List ℕ) → IsCounted b historical q → IsCounted (with_kept b id p) historical q
  counted_old historical q c =
      let apart : c.0 ≢ id = live_apart b.arena id c.0 new.fresh (edge_live c.0 c.1) in (
        c.0,
        subst (λ (s : Path). IsSome s.left) (sym (path_of_old c.0 apart)) c.1,
        ap (λ s. s.list)
            (path_of_old c.0 apart) ∙ c.2,
        c.3,
      )
    where
      edge_live : (i : ℕ) → HasAnEdge b.arena i → IsLive b.arena i
      edge_live i edge = live_from_edge b.arena i was.arena edge

  not_marked : set.contains b.marked id ≡ false
  not_marked = go (set.contains b.marked id) refl
    where
      go : (o : Bool) → set.contains b.marked id ≡ o → set.contains b.marked id ≡ false
      go true e = absurd (marked_apart id e refl)
      go false e = e

  counted_now : (historical : Bool) (q : List ℕ) → IsCounted (with_kept b id p) historical q → IsCounted b historical q
      ⊎ ((q ≡ p.list) × (historical ≡ false))
  counted_now historical q c = elim (cases_eq c.0 id) [
    | inl same ↦ inr (
      sym c.2 ∙ ap (list_of (with_path b.arena id p)) same ∙ ap (λ s. s.list) path_of_new,
      sym c.3
          ∙ ap (set.contains b.marked) same ∙ not_marked,
    )
    | inr apart ↦ inl (
      c.0,
      subst (λ (s : Path). IsSome s.left) (path_of_old c.0 apart) c.1,
      sym (ap (λ s. s.list) (path_of_old c.0 apart)) ∙ c.2,
      c.3,
    )
  ]

  pub historical_formed : (n : ℕ) → CountIs (IsCounted b true) n → CountIs (IsCounted (with_kept b id p) true) n
  historical_formed n c =
      count_same (IsCounted b true) (IsCounted (with_kept b id p) true) n
      (λ q. (
        counted_old true q,
        λ h. elim (counted_now true q h)
            [ inl before ↦ before | inr now ↦ absurd (false≢true (sym now.1)) ],
      )) c

  pub pending_formed : (n : ℕ) → CountIs (IsCounted b false) n → CountIs (IsCounted (with_kept b id p) false) (n + 1)
  pending_formed n c =
      count_more (IsCounted b false) (IsCounted (with_kept b id p) false) n p.list
      (λ h. new.list h.0 (live_from_edge b.arena h.0 was.arena h.1) h.2)
      (λ q. (
        λ h. elim (counted_now false q h) [ inl before ↦ inl before | inr now ↦ inr now.0 ],
        λ h. elim h [
          | inl before ↦ counted_old false q before
          | inr same ↦ (id, edge_now, ap (λ s. s.list) path_of_new ∙ sym same, not_marked)
        ],
      )) c

  pub stored_formed : (h0 h1 k : Heaps) (m n : Known) (historical pending : ℕ) → IsStored b h0 historical pending
      → HoldsPaths b.arena h1 → IsAdmitted (with_path b.arena id p) h1 k m n id → historical + pending < 2 ^ 48
      → IsStored (with_kept b id p) k historical (pending + 1)
  stored_formed h0 h1 k m n historical pending stored holds adm room = record {
    book = book_formed;
    heaps = heaps_formed h1 k m n holds adm;
    historical_count = historical_formed historical stored.historical_count;
    pending_count = pending_formed pending stored.pending_count;
    most = omega arith;
  }
