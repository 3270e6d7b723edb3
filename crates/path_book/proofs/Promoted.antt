-- A book in which one more path is historical.
use Rattle.std.specs.Prelude.{◌≡◌, ◌≢◌, ℕ, ◌+◌, ◌-◌, ◌^◌, ◌<◌, ◌≤◌, ◌⊎◌, ◌↔◌, Bool, true, false, IsTrue, ◌==◌, List, length, slice_set, Option, Some, None, IsSome, is_some, unwrap_or, refl}
use Rattle.std.specs.FinSet as set
use Rattle.std.proofs.Common.{sym, ◌∙◌, ap, subst, arith, inl, inr}
use Rattle.std.proofs.lemmas.Bool.{cases_eq, false≢true, eq-eqb, eqb-true}
use Rattle.apsp_model.specs.Counts.{CountIs}
use Rattle.apsp_model.proofs.Counting.{count_more}
use Rattle.path_arena.specs.Arena.{Path, IsLive, path_of, list_of, left_of, right_of, HasAnEdge}
use Rattle.path_arena.proofs.Paths.{Parted, parted, live_from_edge}
use Rattle.pair_heaps.specs.Heaps.{Heaps}
use Rattle.extension_lists.specs.Known.{Known, IsKnown, IsStarred, sides_at}
use Rattle.path_book.specs.Book.{Book, IsMarked, left_id, right_id, with_mark, HasExtensions, IsBook}
use Rattle.path_book.specs.Layout.{marked_in, IsCounted, IsStored}
use Rattle.path_book.proofs.Sets.{marked_put, marked_put_other}
use Rattle.path_book.proofs.Sides.{grown}
use Rattle.path_book.proofs.Counts.{count_less}
use Rattle.path_book.proofs.Places.{marked_set}

some_of : (o : Option ℕ) → IsSome o → o ≡ Some (unwrap_or o 0)
some_of None h = absurd (false≢true h)
some_of (Some x) h = refl

module _ (b : Book) (id : ℕ) (was : IsBook b) (edge : HasAnEdge b.arena id) where
  pub left_is : left_of b.arena id ≡ Some (left_id (path_of b.arena id))
  left_is = some_of (left_of b.arena id) edge

  pub right_is : right_of b.arena id ≡ Some (right_id (path_of b.arena id))
  right_is =
      let p : Parted b.arena id = parted b.arena id was.arena edge in
      some_of (right_of b.arena id) (ap is_some (ap (λ q. q.right) p.of ∙ p.parts.right_is))

  pub known_left : IsKnown b.lists (left_id (path_of b.arena id))
  known_left =
      (was.extensions.known (left_id (path_of b.arena id))).1
      (was.marked_live (left_id (path_of b.arena id)) (was.left_marked id (left_id (path_of b.arena id)) left_is))

  pub known_right : IsKnown b.lists (right_id (path_of b.arena id))
  known_right =
      (was.extensions.known (right_id (path_of b.arena id))).1
      (was.marked_live (right_id (path_of b.arena id)) (was.right_marked id (right_id (path_of b.arena id)) right_is))

module _ (b : Book) (id : ℕ) (was : IsBook b) (edge : HasAnEdge b.arena id) (pending : IsMarked b id → ⊥) where
  still_marked : (q : ℕ) → IsMarked b q → IsTrue (set.contains (set.insert b.marked id) q)
  still_marked q mark = elim (cases_eq q id) [
    | inl same ↦ ap (set.contains (set.insert b.marked id)) same ∙ marked_put b.marked id
    | inr apart ↦ marked_put_other b.marked id q apart ∙ mark
  ]

  -- the marks of the paths of which a part is k
  star_with : (part : Path → Option ℕ) (key : ℕ) → part (path_of b.arena id) ≡ Some key → (k q : ℕ)
      → ((part (path_of b.arena q) ≡ Some k) × IsTrue (set.contains (set.insert b.marked id) q)) ↔
      (((part (path_of b.arena q) ≡ Some k) × IsMarked b q) ⊎ (IsTrue (k == key) × (q ≡ id)))
  star_with part key is k q = (
    λ h. elim (cases_eq q id) [
      | inl same ↦ inr (
        eq-eqb k key (let two : Some k ≡ Some key = sym h.0 ∙ ap (λ j. part (path_of b.arena j)) same
            ∙ is in cc),
        same,
      )
      | inr apart ↦ inl (h.0, sym (marked_put_other b.marked id q apart) ∙ h.1)
    ],
    λ h. elim h [
      | inl before ↦ (before.0, still_marked q before.1)
      | inr now ↦ (
        ap (λ j. part (path_of b.arena j)) now.1 ∙ is
            ∙ ap Some (sym (eqb-true k key now.0)),
        ap (set.contains (set.insert b.marked id)) now.1
            ∙ marked_put b.marked id,
      )
    ],
  )

  module _ (lists : Known) (starred : IsStarred b.lists lists id (left_id (path_of b.arena id))
      (right_id (path_of b.arena id))) where
    pub extensions_promoted : HasExtensions b.arena (set.insert b.marked id) lists
    extensions_promoted = record {
      known = λ q. (
        λ h. (was.extensions.known q).0 (sym (starred.known q) ∙ h),
        λ live. starred.known q ∙ (was.extensions.known q).1 live,
      );
      left = λ k q. (
        λ c. (was.extensions.left k q).0 (((starred.left k).1 q).0 c),
        λ is. ((starred.left k).1 q).1 ((was.extensions.left k q).1 is),
      );
      right = λ k q. (
        λ c. (was.extensions.right k q).0 (((starred.right k).1 q).0 c),
        λ is. ((starred.right k).1 q).1 ((was.extensions.right k q).1 is),
      );
      left_star = λ k q.
          grown (sides_at b.lists k).left_star (sides_at lists k).left_star id (k == right_id (path_of b.arena id))
          (λ j. (right_of b.arena j ≡ Some k) × IsMarked b j)
          (λ j. (right_of b.arena j ≡ Some k) × IsTrue (set.contains (set.insert b.marked id) j))
          (starred.left_star k)
          (was.extensions.left_star k) (star_with (λ p. p.right) (right_id (path_of b.arena id))
          (right_is b id was edge) k) q;
      right_star = λ k q.
          grown (sides_at b.lists k).right_star (sides_at lists k).right_star id (k == left_id (path_of b.arena id))
          (λ j. (left_of b.arena j ≡ Some k) × IsMarked b j)
          (λ j. (left_of b.arena j ≡ Some k) × IsTrue (set.contains (set.insert b.marked id) j))
          (starred.right_star k)
          (was.extensions.right_star k) (star_with (λ p. p.left) (left_id (path_of b.arena id)) (left_is b id was edge)
          k) q;
    }

    pub book_promoted : IsBook (with_mark b id lists)
    book_promoted = record {
      arena = was.arena;
      once = was.once;
      marked_live = λ q mark. elim (cases_eq q id) [
        | inl same ↦ subst (λ j. IsLive b.arena j) (sym same) (live_from_edge b.arena id was.arena edge)
        | inr apart ↦ was.marked_live q (sym (marked_put_other b.marked id q apart) ∙ mark)
      ];
      singles = λ v l. still_marked _ (was.singles v l);
      left_marked = λ q k is. still_marked k (was.left_marked q k is);
      right_marked = λ q k is. still_marked k (was.right_marked q k is);
      extensions = extensions_promoted;
    }

  down : set.contains b.marked id ≡ false
  down = go (set.contains b.marked id) refl
    where
      go : (o : Bool) → set.contains b.marked id ≡ o → set.contains b.marked id ≡ false
      go true e = absurd (pending e)
      go false e = e

  -- a path of the same list is this one
  same_id : (i : ℕ) → HasAnEdge b.arena i → list_of b.arena i ≡ list_of b.arena id → i ≡ id
  same_id i edge_i same =
      was.once i id (live_from_edge b.arena i was.arena edge_i) (live_from_edge b.arena id was.arena edge) same

  pub historical_promoted : (lists : Known) (n : ℕ) → CountIs (IsCounted b true) n
      → CountIs (IsCounted (with_mark b id lists) true) (n + 1)
  historical_promoted lists n c =
      count_more (IsCounted b true) (IsCounted (with_mark b id lists) true) n (list_of b.arena id)
      (λ h. (let e : h.0 ≡ id = same_id h.0 h.1 h.2 in pending (sym (ap (set.contains b.marked) e) ∙ h.3)))
      (λ q. (
        λ h. elim (cases_eq h.0 id) [
          | inl same ↦ inr (sym h.2 ∙ ap (list_of b.arena) same)
          | inr apart ↦ inl (h.0, h.1, h.2, sym (marked_put_other b.marked id h.0 apart) ∙ h.3)
        ],
        λ h. elim h [
          | inl before ↦ (before.0, before.1, before.2, still_marked before.0 before.3)
          | inr same ↦ (id, edge, sym same, marked_put b.marked id)
        ],
      )) c

  pub pending_promoted : (lists : Known) (n : ℕ) → CountIs (IsCounted b false) n → (1 ≤ n)
      × CountIs (IsCounted (with_mark b id lists) false) (n - 1)
  pending_promoted lists n c =
      count_less (IsCounted b false) (IsCounted (with_mark b id lists) false) n (list_of b.arena id)
      (id, edge, refl, down)
      (λ q. (
        λ h. (
            let apart : h.0 ≢ id =
            λ same. (false≢true (sym h.3 ∙ ap (set.contains (set.insert b.marked id)) same
            ∙ marked_put b.marked id)) in (
              (h.0, h.1, h.2, sym (marked_put_other b.marked id h.0 apart) ∙ h.3),
              λ same. apart
                  (same_id h.0 h.1 (h.2 ∙ same)),
            )
            ),
        λ h. (
            let apart : h.0.0 ≢ id = λ same. h.1 (sym h.0.2 ∙ ap (list_of b.arena) same) in
            (h.0.0, h.0.1, h.0.2, marked_put_other b.marked id h.0.0 apart ∙ h.0.3)
            ),
      )) c

  pub stored_promoted : (lists : Known) → IsStarred b.lists lists id (left_id (path_of b.arena id))
      (right_id (path_of b.arena id)) → (held : Heaps) (historical waiting : ℕ) → IsStored b held historical waiting
      → (1 ≤ waiting) × IsStored (with_mark b id lists) held (historical + 1) (waiting - 1)
  stored_promoted lists starred held historical waiting stored =
      let less = pending_promoted lists waiting stored.pending_count in
      let some : 1 ≤ waiting = less.0 in
      let most : historical + waiting ≤ 2 ^ 48 = stored.most in (
        some,
        record {
          book = book_promoted lists starred;
          heaps = stored.heaps;
          historical_count = historical_promoted lists historical stored.historical_count;
          pending_count = less.1;
          most = omega arith;
        },
      )

-- the starred lists of the parts are longer
pub is_starred : (b : Book) (id l r : ℕ) (lists : Known) → left_of b.arena id ≡ Some l → right_of b.arena id ≡ Some r
    → IsStarred b.lists lists id l r → IsStarred b.lists lists id (left_id (path_of b.arena id))
    (right_id (path_of b.arena id))
is_starred b id l r lists left right starred =
    subst (λ m. IsStarred b.lists lists id m (right_id (path_of b.arena id))) (ap (λ o. unwrap_or o 0) (sym left))
    (subst (λ m. IsStarred b.lists lists id l m) (ap (λ o. unwrap_or o 0) (sym right)) starred)

-- the book with a mark set and these lists
pub is_promoted : (b : Book) (marks : List Bool) (id key : ℕ) (lists : Known) → marked_in marks ≡ b.marked → key ≡ id
    → key < length marks → ◌≡◌ {A = Book}
    (record { arena = b.arena; marked = marked_in (slice_set marks key true); lists = lists }) (with_mark b id lists)
is_promoted b marks id key lists same here room =
    let marked : marked_in (slice_set marks key true) ≡ set.insert b.marked id =
    marked_set marks key room ∙ (λ i. set.insert (same i) (here i)) in
    λ i. record { arena = b.arena; marked = marked i; lists = lists }
