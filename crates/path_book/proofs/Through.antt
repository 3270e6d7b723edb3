-- For forget_through: its loop, and what is left.
use Rattle.std.specs.Prelude.{◌≡◌, ◌≢◌, ℕ, ◌-◌, ◌<◌, ◌≤◌, ◌↔◌, Bool, true, false, MatchBool, ◌==◌, if◌then◌else◌, List, [], ◌∷◌, ◌++◌, length, Some, is_some, unwrap_or, refl, Contains}
use Rattle.std.specs.FinMap as map
use Rattle.std.specs.FinSet as set
use Rattle.std.proofs.Common.{sym, ◌∙◌, ap, subst, arith, inl, inr}
use Rattle.std.proofs.lemmas.Bool.{cases_eq}
use Rattle.std.proofs.lemmas.List.{append_assoc}
use Rattle.apsp_model.specs.Walk.{first, last}
use Rattle.apsp_model.proofs.Members.{in_nil, head_in}
use Rattle.apsp_model.proofs.Lists.{in_right, in_left}
use Rattle.path_arena.specs.Arena.{Arena, vertex_of, IsLive, list_of, left_of, right_of, HasAnEdge, IsPartOfNone, single, without_path}
use Rattle.path_arena.proofs.Keys.{get_put, get_put_other}
use Rattle.path_arena.proofs.Paths.{path_of_at, live_from, live_from_edge}
use Rattle.pair_heaps.specs.Heaps.{Heaps, HeapsFit, IsHeld, IsRemoved}
use Rattle.extension_lists.specs.Known.{Sides, Known, no_sides, IsKnown, sides_at, IsTakenFromLeft, IsTakenFromRight}
use Rattle.path_book.specs.Book.{Book, IsMarked, HasExtensions}
use Rattle.path_book.specs.Dirty.{Dirty, IsNoted}
use Rattle.path_book.specs.Layout.{marked_in, mark_at, IsClean, IsLaidOut}
use Rattle.path_book.specs.Through.{IsVictims, AreForgotten}
use Rattle.path_book.proofs.Admitting.{ends_of}
use Rattle.path_book.proofs.Places.{contains-marked_in}
use Rattle.path_book.proofs.Formed.{ends_alike}
use Rattle.path_book.proofs.Changes.{none_forgotten, forgotten_more}
use Rattle.path_book.proofs.Clean.{clean_forgotten}
use Rattle.path_book.proofs.Ends.{Ends, ends, edge_of_right}
use Rattle.path_book.proofs.Forgotten.{IsStoredButLists, stored_but_lists, stored_with_lists, LeftOverButLists, left_but_lists, some_of_kind}
use Rattle.path_book.proofs.Victims.{last_through, last_is_free, fewer_victims}
use Rattle.path_book.proofs.Leaving.{IsListedAt, AreListed, fewer_listed}

-- so far the paths at the end of the ids are forgotten, and these are left
pub record IsForgetting (old : Book) (v : ℕ) (ids rest : List ℕ) (now : Book) (held : Heaps) (dirty : Dirty)
    (historical pending : ℕ) : Type 0 where
  pub gone : List ℕ
  pub split : ids ≡ rest ++ gone
  pub forgotten : AreForgotten old now gone
  pub inside : v < now.arena.vertices
  pub stored : IsStoredButLists now held historical pending
  pub clean : IsClean now dirty
  pub victims : IsVictims now v rest
  pub listed : AreListed now v rest

pub forgetting_none : (b seen : Book) (v : ℕ) (ids : List ℕ) (held : Heaps) (dirty : Dirty) (historical pending : ℕ)
    → IsLaidOut b held dirty historical pending → b ≡ seen → v < seen.arena.vertices → IsVictims seen v ids
    → IsForgetting b v ids ids b held dirty historical pending
forgetting_none b seen v ids held dirty historical pending laid is inside victims = record {
  gone = [];
  split = sym (append_nil ids);
  forgotten = none_forgotten b;
  inside = subst (λ (c : Book). v < c.arena.vertices) (sym is) inside;
  stored = stored_but_lists b held historical pending laid.stored;
  clean = laid.dirty;
  victims = subst (λ (c : Book). IsVictims c v ids) (sym is) victims;
  listed = record {
    known = laid.stored.book.extensions.known;
    settled = λ k settled. record {
      left = laid.stored.book.extensions.left k;
      right = laid.stored.book.extensions.right k;
      left_star = laid.stored.book.extensions.left_star k;
      right_star = laid.stored.book.extensions.right_star k;
    };
  };
}
  where
    append_nil : (xs : List ℕ) → xs ++ [] ≡ xs
    append_nil [] = refl
    append_nil (x ∷ xs) = ap (λ ys. x ∷ ys) (append_nil xs)

-- ---- the longest path

module _ (old : Book) (v : ℕ) (ids rest fewer : List ℕ) (b : Book) (held : Heaps) (dirty : Dirty)
    (historical pending id : ℕ) (f : IsForgetting old v ids rest b held dirty historical pending)
    (is : rest ≡ fewer ++ id ∷ []) where
  pub longest_edge : HasAnEdge b.arena id
  longest_edge = (last_through b f.stored.book v id rest fewer is f.victims).0

  pub longest_live : IsLive b.arena id
  longest_live = live_from_edge b.arena id f.stored.book.arena longest_edge

  pub longest_free : IsPartOfNone b.arena id
  longest_free = last_is_free b f.stored.book v id rest fewer is f.victims

  pub longest_held : IsHeld held id
  longest_held =
      let at = ends_of b.arena id f.stored.book.arena longest_edge in
      (at.0, at.1, f.stored.heaps.held id at.0 at.1 longest_edge at.2)

  pub left_known : (l : ℕ) → left_of b.arena id ≡ Some l → IsKnown b.lists l
  left_known l left = (f.listed.known l).1 (f.stored.book.marked_live l (f.stored.book.left_marked id l left))

  pub right_known : (r : ℕ) → right_of b.arena id ≡ Some r → IsKnown b.lists r
  right_known r right = (f.listed.known r).1 (f.stored.book.marked_live r (f.stored.book.right_marked id r right))

  -- what is known stays so while the lists of the parts change
  pub still_known : (one two : Known) (l r : ℕ) (starts stops : Bool)
      → MatchBool starts (IsTakenFromLeft b.lists one id r) (one ≡ b.lists)
      → MatchBool stops (IsTakenFromRight one two id l) (two ≡ one) → (k : ℕ) → IsKnown b.lists k → IsKnown one k
      × IsKnown two k
  still_known one two l r starts stops first_step second_step k known =
      let a = known_left starts first_step in
      (a ∙ known, known_right stops second_step ∙ a ∙ known)
    where
      known_left : (starts : Bool) → MatchBool starts (IsTakenFromLeft b.lists one id r) (one ≡ b.lists)
          → is_some (map.get one k) ≡ is_some (map.get b.lists k)
      known_left true t = t.known k
      known_left false same = ap (λ (m : Known). is_some (map.get m k)) same

      known_right : (stops : Bool) → MatchBool stops (IsTakenFromRight one two id l) (two ≡ one)
          → is_some (map.get two k) ≡ is_some (map.get one k)
      known_right true t = t.known k
      known_right false same = ap (λ (m : Known). is_some (map.get m k)) same

  -- its kind is counted
  pub some_before : (key : ℕ) (before : List Bool) → marked_in before ≡ b.marked → key ≡ id
      → 1 ≤ (if mark_at before key then historical else pending)
  some_before key before marks here =
      some_of_kind b id b.lists f.stored.book longest_edge longest_free historical pending f.stored.historical_count
      f.stored.pending_count (mark_at before key)
      (sym (λ i. set.contains (marks i) (here i)) ∙ contains-marked_in before key)

  module _ (key : ℕ) (k : Heaps) (noted : Dirty) (arena : Arena) (from to l r : ℕ) (one two three : Known)
      (before after : List Bool) (marks : marked_in before ≡ b.marked) (here : key ≡ id)
      (taken : arena ≡ without_path b.arena id) (fits : HeapsFit k b.arena) (removed : IsRemoved held k id from to)
      (cleared : marked_in after ≡ set.remove (marked_in before) key) (begins : first (list_of b.arena id) ≡ Some from)
      (finishes : last (list_of b.arena id) ≡ Some to) where
    left_over : LeftOverButLists b id k arena three after historical pending (mark_at before key)
    left_over =
        left_but_lists b id key held k arena three before after historical pending (mark_at before key) f.stored
        longest_edge longest_free marks here taken fits
        (λ x y e. (let at = ends_alike b.arena id x y from to e (begins, finishes) in
        subst (λ u. IsRemoved held k id u y) at.0 (subst (λ u. IsRemoved held k id from u) at.1 removed))) refl
        cleared

    abbrev then_book : Book
    then_book = record { arena = arena; marked = marked_in after; lists = three }

    pub forgetting_more : (left : left_of b.arena id ≡ Some l) (right : right_of b.arena id ≡ Some r)
        → MatchBool (from == v) (IsTakenFromLeft b.lists one id r) (one ≡ b.lists)
        → MatchBool (to == v) (IsTakenFromRight one two id l) (two ≡ one) → three ≡ map.remove two id
        → IsNoted dirty noted from to → IsForgetting old v ids fewer
        (record { arena = arena; marked = marked_in after; lists = three }) k noted
        (if mark_at before key then historical - 1 else historical)
        (if mark_at before key then pending else pending - 1)
    forgetting_more left right first_step second_step third_step note = record {
      gone = id ∷ f.gone;
      split = f.split ∙ ap (λ xs. xs ++ f.gone) is ∙ append_assoc fewer (id ∷ []) f.gone;
      forgotten = forgotten_more old b then_book f.gone id f.forgotten taken left_over.marked_is;
      inside = subst (λ n. v < n) (sym (ap (λ (a : Arena). a.vertices) taken)) f.inside;
      stored = left_over.stored;
      clean = clean_forgotten b then_book id dirty noted from to taken left_over.marked_is f.clean note
          (begins, finishes);
      victims = fewer_victims b f.stored.book v id rest fewer is f.victims then_book taken;
      listed = subst (λ (c : Book). AreListed c v fewer)
          (λ i. record { arena = sym taken i; marked = sym left_over.marked_is i; lists = three })
          (fewer_listed b f.stored.book v id l r from to rest fewer is f.victims f.listed left right begins finishes one
          two three first_step second_step third_step);
    }

-- ---- the end

-- nothing but its lists is said of a book that is clean
clean_lists : (b : Book) (lists : Known) (d : Dirty) → IsClean b d
    → IsClean (record { arena = b.arena; marked = b.marked; lists = lists }) d
clean_lists b lists d clean = record {
  vertices = clean.vertices;
  clean = λ x y x_in y_in calm. elim (clean.clean x y x_in y_in calm) [
    | inl none ↦ inl none
    | inr least ↦ inr (least.0, record { live = least.1.live; ends = least.1.ends; least = least.1.least }, least.2)
  ];
}

module _ (old : Book) (v : ℕ) (ids rest : List ℕ) (b : Book) (held : Heaps) (dirty : Dirty) (historical pending : ℕ)
    (f : IsForgetting old v ids rest b held dirty historical pending) (none : rest ≡ []) where
  single_live : IsLive b.arena (vertex_of b.arena v)
  single_live = live_from b.arena (vertex_of b.arena v) (single v) (f.stored.book.arena.singles v f.inside)

  pub single_known : IsKnown b.lists (vertex_of b.arena v)
  single_known = (f.listed.known (vertex_of b.arena v)).1 single_live

  single_list : list_of b.arena (vertex_of b.arena v) ≡ v ∷ []
  single_list =
      ap (λ p. p.list) (path_of_at b.arena (vertex_of b.arena v) (single v) (f.stored.book.arena.singles v f.inside))

  nothing : (q : ℕ) → HasAnEdge b.arena q → Contains (list_of b.arena q) v → ⊥
  nothing q edge stands = in_nil q (subst (λ xs. Contains xs q) none ((f.victims.exact q).1 (edge, stands)))

  no_right : (q : ℕ) → right_of b.arena q ≡ Some (vertex_of b.arena v) → ⊥
  no_right q e =
      let edge : HasAnEdge b.arena q = edge_of_right b.arena f.stored.book.arena q (vertex_of b.arena v) e in
      let p : Ends b.arena q = ends b.arena q f.stored.book.arena edge in
      let same : p.right ≡ vertex_of b.arena v =
      (let two : Some p.right ≡ Some (vertex_of b.arena v) = sym p.right_is ∙ e in cc) in
      nothing q edge (in_right (list_of b.arena q) v
      (subst (λ xs. Contains xs v) (sym single_list ∙ ap (list_of b.arena) (sym same) ∙ p.right_list)
      (head_in v v [] refl)))

  no_left : (q : ℕ) → left_of b.arena q ≡ Some (vertex_of b.arena v) → ⊥
  no_left q e =
      let edge : HasAnEdge b.arena q = ap is_some e in
      let p : Ends b.arena q = ends b.arena q f.stored.book.arena edge in
      let same : p.left ≡ vertex_of b.arena v =
      (let two : Some p.left ≡ Some (vertex_of b.arena v) = sym p.left_is ∙ e in cc) in
      let long : 1 < length (list_of b.arena q) = p.long in
      nothing q edge (in_left (list_of b.arena q) v (omega arith)
      (subst (λ xs. Contains xs v) (sym single_list ∙ ap (list_of b.arena) (sym same) ∙ p.left_list)
      (head_in v v [] refl)))

  module _ (vertex : ℕ) (lists : Known) (is_vertex : vertex ≡ vertex_of b.arena v)
      (emptied : lists ≡ map.insert b.lists vertex no_sides) where
    put : lists ≡ map.insert b.lists (vertex_of b.arena v) no_sides
    put = emptied ∙ ap (λ k. map.insert b.lists k no_sides) is_vertex

    own : sides_at lists (vertex_of b.arena v) ≡ no_sides
    own = ap (λ (m : Known). sides_at m (vertex_of b.arena v)) put
        ∙ ap (λ o. unwrap_or o no_sides) (get_put b.lists (vertex_of b.arena v) no_sides)

    other : (k : ℕ) → k ≢ vertex_of b.arena v → sides_at lists k ≡ sides_at b.lists k
    other k apart =
        ap (λ (m : Known). sides_at m k) put
        ∙ ap (λ o. unwrap_or o no_sides) (get_put_other b.lists (vertex_of b.arena v) no_sides k apart)

    known : (k : ℕ) → IsKnown lists k ↔ IsLive b.arena k
    known k = elim (cases_eq k (vertex_of b.arena v)) [
      | inl same ↦ (
        λ h. subst (IsLive b.arena) (sym same) single_live,
        λ h. subst (IsKnown lists) (sym same)
            (ap (λ (m : Known). is_some (map.get m (vertex_of b.arena v))) put
            ∙ ap is_some (get_put b.lists (vertex_of b.arena v) no_sides)),
      )
      | inr apart ↦
          let still : is_some (map.get lists k) ≡ is_some (map.get b.lists k) =
          ap (λ (m : Known). is_some (map.get m k)) put
          ∙ ap is_some (get_put_other b.lists (vertex_of b.arena v) no_sides k apart) in
          (λ h. (f.listed.known k).0 (sym still ∙ h), λ h. still ∙ (f.listed.known k).1 h)
    ]

    settled : (k : ℕ) → k ≢ vertex_of b.arena v → IsListedAt b k
    settled k apart = f.listed.settled k (λ c. in_nil k (subst (λ xs. Contains xs k) none c), apart)

    side : (proj : Sides → List ℕ) (Old : ℕ → ℕ → Type 0) → proj no_sides ≡ []
        → ((q : ℕ) → Old (vertex_of b.arena v) q → ⊥)
        → ((k q : ℕ) → k ≢ vertex_of b.arena v → Contains (proj (sides_at b.lists k)) q ↔ Old k q) → (k q : ℕ)
        → Contains (proj (sides_at lists k)) q ↔ Old k q
    side proj Old empty not rest_is k q = elim (cases_eq k (vertex_of b.arena v)) [
      | inl same ↦ (
        λ c. absurd (in_nil q (subst (λ xs. Contains xs q)
            (ap (λ j. proj (sides_at lists j)) same ∙ ap proj own ∙ empty) c)),
        λ h. absurd (not q (subst (λ j. Old j q) same h)),
      )
      | inr apart ↦ (
        λ c. (rest_is k q apart).0 (subst (λ (s : Sides). Contains (proj s) q) (other k apart) c),
        λ h. subst (λ (s : Sides). Contains (proj s) q) (sym (other k apart)) ((rest_is k q apart).1 h),
      )
    ]

    extensions : HasExtensions b.arena b.marked lists
    extensions = record {
      known = known;
      left = side (λ s. s.left) (λ k q. right_of b.arena q ≡ Some k) refl no_right
          (λ k q apart. (settled k apart).left q);
      right = side (λ s. s.right) (λ k q. left_of b.arena q ≡ Some k) refl no_left
          (λ k q apart. (settled k apart).right q);
      left_star =
          side (λ s. s.left_star) (λ k q. (right_of b.arena q ≡ Some k) × IsMarked b q) refl (λ q h. no_right q h.0)
          (λ k q apart. (settled k apart).left_star q);
      right_star =
          side (λ s. s.right_star) (λ k q. (left_of b.arena q ≡ Some k) × IsMarked b q) refl (λ q h. no_left q h.0)
          (λ k q apart. (settled k apart).right_star q);
    }

    pub laid_out : IsLaidOut (record { arena = b.arena; marked = b.marked; lists = lists }) held dirty historical
        pending
    laid_out = record {
      stored = stored_with_lists (record { arena = b.arena; marked = b.marked; lists = lists }) held historical pending
          (but f.stored) extensions;
      dirty = clean_lists b lists dirty f.clean;
    }
      where
        but : IsStoredButLists b held historical pending
            → IsStoredButLists (record { arena = b.arena; marked = b.marked; lists = lists }) held historical pending
        but s = record {
          book = record {
            arena = s.book.arena;
            once = s.book.once;
            marked_live = s.book.marked_live;
            singles
                = s.book.singles;
            left_marked = s.book.left_marked;
            right_marked = s.book.right_marked;
          };
          heaps = s.heaps;
          historical_count = s.historical_count;
          pending_count = s.pending_count;
          most = s.most;
        }

    pub all_forgotten : (seen : Book) → old ≡ seen
        → AreForgotten seen (record { arena = b.arena; marked = b.marked; lists = lists }) ids
    all_forgotten seen same =
        let all : f.gone ≡ ids = sym (f.split ∙ ap (λ xs. xs ++ f.gone) none) in
        let now : Book = record { arena = b.arena; marked = b.marked; lists = lists } in
        subst (λ (c : Book). AreForgotten c now ids) same
        (subst (AreForgotten old now) all
        (record {
          vertices = f.forgotten.vertices;
          singles = f.forgotten.singles;
          paths = f.forgotten.paths;
          marked
              = f.forgotten.marked;
        }))
