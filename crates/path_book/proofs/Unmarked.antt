-- A book in which one path is historical no more, and one in which a path has another birth.
use Rattle.std.specs.Prelude.{◌≡◌, ◌≢◌, ℕ, ◌+◌, ◌-◌, ◌^◌, ◌<◌, ◌≤◌, ◌↔◌, Bool, true, false, IsTrue, ◌==◌, List, length, slice_set, Option, Some, is_some, unwrap_or, refl}
use Rattle.std.specs.FinSet as set
use Rattle.std.proofs.Common.{sym, ◌∙◌, ap, subst, arith, inl, inr}
use Rattle.std.proofs.lemmas.Bool.{cases_eq, false≢true, true≢false, eq-eqb}
use Rattle.apsp_model.specs.Order.{path_cmp}
use Rattle.apsp_model.specs.Walk.{first, last}
use Rattle.apsp_model.specs.Counts.{CountIs}
use Rattle.apsp_model.proofs.Counting.{count_more, count_same}
use Rattle.path_arena.specs.Arena.{Path, IsLive, no_path, path_of, list_of, weight_of_id, left_of, right_of, HasAnEdge, id_cmp, with_birth, IsPartOfNone}
use Rattle.path_arena.proofs.Keys.{get_gone_other}
use Rattle.path_arena.proofs.Paths.{live_from_edge}
use Rattle.path_arena.proofs.Births.{arena_born, field_still, live_still, list_still, weight_still}
use Rattle.pair_heaps.specs.Heaps.{Heaps, HasEnds}
use Rattle.pair_heaps.proofs.Fits.{fits_agree}
use Rattle.extension_lists.specs.Known.{Known, IsUnstarred, sides_at}
use Rattle.path_book.specs.Book.{Book, IsMarked, left_id, right_id, without_mark, with_new_birth, IsForgotten, HasExtensions, IsBook, IsLeastKeptId}
use Rattle.path_book.specs.Dirty.{Dirty}
use Rattle.path_book.specs.Layout.{marked_in, mark_at, IsCounted, IsStored, IsClean}
use Rattle.path_book.proofs.Sets.{marked_gone, marked_gone_other}
use Rattle.path_book.proofs.Places.{contains-marked_in, mark_within, marked_cleared}
use Rattle.path_book.proofs.Sides.{shrunk}
use Rattle.path_book.proofs.Counts.{count_less}
use Rattle.path_book.proofs.Promoted.{left_is, right_is}
use Rattle.path_book.proofs.Forgotten.{but_lists, book_left, marked_left}
use Rattle.path_book.proofs.Changes.{live_is_left}

-- ---- a path is historical no more

module _ (b : Book) (id : ℕ) (was : IsBook b) (edge : HasAnEdge b.arena id) (free : IsPartOfNone b.arena id)
    (mark : IsMarked b id) (lists : Known) where
  gone : (q : ℕ) → IsTrue (set.contains (set.remove b.marked id) q) ↔ (IsMarked b q × (q ≢ id))
  gone q = marked_left b id lists (but_lists b was) edge free q

  -- the marks of the paths of which a part is k
  star_without : (part : Path → Option ℕ) (k q : ℕ)
      → ((part (path_of b.arena q) ≡ Some k) × IsTrue (set.contains (set.remove b.marked id) q)) ↔
      (((part (path_of b.arena q) ≡ Some k) × IsMarked b q) × (q ≢ id))
  star_without part k q = (
    λ h. (let old = (gone q).0 h.1 in ((h.0, old.0), old.1)),
    λ h. (h.0.0, (gone q).1 (h.0.1, h.1)),
  )

  elsewhere : (part : Path → Option ℕ) (key : ℕ) → part (path_of b.arena id) ≡ Some key → (k : ℕ) → (k == key) ≡ false
      → (part (path_of b.arena id) ≡ Some k) × IsMarked b id → ⊥
  elsewhere part key is k here h =
      let two : Some k ≡ Some key = sym h.0 ∙ is in
      let same : k ≡ key = cc in
      true≢false (sym (eq-eqb k key same) ∙ here)

  module _ (unstarred : IsUnstarred b.lists lists id (left_id (path_of b.arena id)) (right_id (path_of b.arena id)))
    where
      extensions_unmarked : HasExtensions b.arena (set.remove b.marked id) lists
      extensions_unmarked = record {
        known = λ q. (
          λ h. (was.extensions.known q).0 (sym (unstarred.known q) ∙ h),
          λ live. unstarred.known q ∙ (was.extensions.known q).1 live,
        );
        left = λ k q. (
          λ c. (was.extensions.left k q).0 (((unstarred.left k).1 q).0 c),
          λ is. ((unstarred.left k).1 q).1 ((was.extensions.left k q).1 is),
        );
        right = λ k q. (
          λ c. (was.extensions.right k q).0 (((unstarred.right k).1 q).0 c),
          λ is. ((unstarred.right k).1 q).1 ((was.extensions.right k q).1 is),
        );
        left_star = λ k q.
            shrunk (sides_at b.lists k).left_star (sides_at lists k).left_star id (k == right_id (path_of b.arena id))
            (λ j. (right_of b.arena j ≡ Some k) × IsMarked b j)
            (λ j. (right_of b.arena j ≡ Some k) × IsTrue (set.contains (set.remove b.marked id) j))
            (unstarred.left_star k) (was.extensions.left_star k) (star_without (λ p. p.right) k)
            (elsewhere (λ p. p.right) (right_id (path_of b.arena id)) (right_is b id was edge) k) q;
        right_star = λ k q.
            shrunk (sides_at b.lists k).right_star (sides_at lists k).right_star id (k == left_id (path_of b.arena id))
            (λ j. (left_of b.arena j ≡ Some k) × IsMarked b j)
            (λ j. (left_of b.arena j ≡ Some k) × IsTrue (set.contains (set.remove b.marked id) j))
            (unstarred.right_star k) (was.extensions.right_star k) (star_without (λ p. p.left) k)
            (elsewhere (λ p. p.left) (left_id (path_of b.arena id)) (left_is b id was edge) k) q;
      }

      book_unmarked : IsBook (without_mark b id lists)
      book_unmarked = record {
        arena = was.arena;
        once = was.once;
        marked_live = λ q m. was.marked_live q ((gone q).0 m).0;
        singles = (book_left b id lists (but_lists b was) edge free).singles;
        left_marked = λ q k is. (gone k).1 (was.left_marked q k is, λ same. free.left q (is ∙ ap Some same));
        right_marked = λ q k is. (gone k).1 (was.right_marked q k is, λ same. free.right q (is ∙ ap Some same));
        extensions = extensions_unmarked;
      }

  live_id : IsLive b.arena id
  live_id = live_from_edge b.arena id was.arena edge

  same_id : (i : ℕ) → HasAnEdge b.arena i → list_of b.arena i ≡ list_of b.arena id → i ≡ id
  same_id i edge_i same = was.once i id (live_from_edge b.arena i was.arena edge_i) live_id same

  historical_unmarked : (n : ℕ) → CountIs (IsCounted b true) n → (1 ≤ n)
      × CountIs (IsCounted (without_mark b id lists) true) (n - 1)
  historical_unmarked n c =
      count_less (IsCounted b true) (IsCounted (without_mark b id lists) true) n (list_of b.arena id)
      (id, edge, refl, mark)
      (λ q. (
        λ h. (let old = (gone h.0).0 h.3 in ((h.0, h.1, h.2, old.0), λ same. old.1 (same_id h.0 h.1 (h.2 ∙ same)))),
        λ h. (
            let apart : h.0.0 ≢ id = λ same. h.1 (sym h.0.2 ∙ ap (list_of b.arena) same) in
            (h.0.0, h.0.1, h.0.2, marked_gone_other b.marked id h.0.0 apart ∙ h.0.3)
            ),
      )) c

  pending_unmarked : (n : ℕ) → CountIs (IsCounted b false) n
      → CountIs (IsCounted (without_mark b id lists) false) (n + 1)
  pending_unmarked n c =
      count_more (IsCounted b false) (IsCounted (without_mark b id lists) false) n (list_of b.arena id)
      (λ h. (let e : h.0 ≡ id = same_id h.0 h.1 h.2 in false≢true (sym h.3 ∙ ap (set.contains b.marked) e ∙ mark)))
      (λ q. (
        λ h. elim (cases_eq h.0 id) [
          | inl same ↦ inr (sym h.2 ∙ ap (list_of b.arena) same)
          | inr apart ↦ inl (h.0, h.1, h.2, sym (marked_gone_other b.marked id h.0 apart) ∙ h.3)
        ],
        λ h. elim h [
          | inl before ↦
              let apart : before.0 ≢ id = λ same. false≢true (sym before.3 ∙ ap (set.contains b.marked) same ∙ mark) in
              (before.0, before.1, before.2, marked_gone_other b.marked id before.0 apart ∙ before.3)
          | inr same ↦ (id, edge, sym same, marked_gone b.marked id)
        ],
      )) c

  pub stored_unmarked : IsUnstarred b.lists lists id (left_id (path_of b.arena id)) (right_id (path_of b.arena id))
      → (held : Heaps) (historical pending : ℕ) → IsStored b held historical pending → (1 ≤ historical)
      × IsStored (without_mark b id lists) held (historical - 1) (pending + 1)
  stored_unmarked unstarred held historical pending stored =
      let less = historical_unmarked historical stored.historical_count in
      let some : 1 ≤ historical = less.0 in
      let most : historical + pending ≤ 2 ^ 48 = stored.most in (
        some,
        record {
          book = book_unmarked unstarred;
          heaps = stored.heaps;
          historical_count = less.1;
          pending_count = pending_unmarked pending stored.pending_count;
          most = omega arith;
        },
      )

  -- of a pair that is not dirty another path is the least
  pub clean_unmarked : (d : Dirty) → IsClean b d → ((x y : ℕ) → IsLeastKeptId b x y id → ⊥)
      → IsClean (without_mark b id lists) d
  clean_unmarked d clean above = record {
    vertices = clean.vertices;
    clean = λ u v u_in v_in none. elim (clean.clean u v u_in v_in none) [
      | inl empty ↦ inl empty
      | inr least ↦ inr (
        least.0,
        record { live = least.1.live; ends = least.1.ends; least = least.1.least },
        (gone least.0).1 (least.2, λ same. above u v (subst (IsLeastKeptId b u v) same least.1)),
      )
    ];
  }

-- the lists of the parts that the calls tell
pub is_unstarred : (b : Book) (id l r : ℕ) (lists : Known) → left_of b.arena id ≡ Some l → right_of b.arena id ≡ Some r
    → IsUnstarred b.lists lists id l r → IsUnstarred b.lists lists id (left_id (path_of b.arena id))
    (right_id (path_of b.arena id))
is_unstarred b id l r lists left right unstarred =
    subst (λ m. IsUnstarred b.lists lists id m (right_id (path_of b.arena id))) (ap (λ o. unwrap_or o 0) (sym left))
    (subst (λ m. IsUnstarred b.lists lists id l m) (ap (λ o. unwrap_or o 0) (sym right)) unstarred)

-- as `unmark` sees it
pub unmarked_now : (b seen : Book) (id l r : ℕ) (lists : Known) (held : Heaps) (historical pending : ℕ) → b ≡ seen
    → IsStored b held historical pending → HasAnEdge seen.arena id → IsPartOfNone seen.arena id → IsMarked seen id
    → left_of b.arena id ≡ Some l → right_of b.arena id ≡ Some r → IsUnstarred b.lists lists id l r → (1 ≤ historical)
    × IsStored (without_mark b id lists) held (historical - 1) (pending + 1)
unmarked_now b seen id l r lists held historical pending is stored edge free mark left right unstarred =
    stored_unmarked b id stored.book (subst (λ (c : Book). HasAnEdge c.arena id) (sym is) edge)
    (subst (λ (c : Book). IsPartOfNone c.arena id) (sym is) free)
    (subst (λ (c : Book). IsMarked c id) (sym is) mark)
    lists (is_unstarred b id l r lists left right unstarred) held historical pending stored

pub unmarked_place : (b seen : Book) (marks : List Bool) (id key : ℕ) → b ≡ seen → marked_in marks ≡ b.marked
    → IsMarked seen id → key ≡ id → key < length marks
unmarked_place b seen marks id key is marks_are mark here =
    let there : mark_at marks id ≡ true =
    sym (contains-marked_in marks id) ∙ ap (λ m. set.contains m id) marks_are
    ∙ subst (λ (c : Book). IsMarked c id) (sym is) mark in
    mark_within marks key (ap (mark_at marks) here ∙ there)

pub same_unmarked : (b : Book) (marks : List Bool) (id key : ℕ) (lists : Known) → marked_in marks ≡ b.marked
    → key < length marks → key ≡ id → ◌≡◌ {A = Book}
    (record { arena = b.arena; marked = marked_in (slice_set marks key false); lists = lists })
    (without_mark b id lists)
same_unmarked b marks id key lists marks_are within here =
    let cleared : marked_in (slice_set marks key false) ≡ set.remove b.marked id =
    marked_cleared marks key within ∙ (λ i. set.remove (marks_are i) (here i)) in
    λ i. record { arena = b.arena; marked = cleared i; lists = lists }

-- ---- a path has another birth

module _ (b : Book) (id birth : ℕ) (was : IsBook b) (edge : HasAnEdge b.arena id) where
  list_is : (q : ℕ) → list_of (with_birth b.arena id birth) q ≡ list_of b.arena q
  list_is = list_still b.arena id birth was.arena edge

  weight_is : (q : ℕ) → weight_of_id (with_birth b.arena id birth) q ≡ weight_of_id b.arena q
  weight_is = weight_still b.arena id birth was.arena edge

  left_same : (q : ℕ) → left_of (with_birth b.arena id birth) q ≡ left_of b.arena q
  left_same = field_still b.arena id birth was.arena edge (λ p. p.left) refl

  right_same : (q : ℕ) → right_of (with_birth b.arena id birth) q ≡ right_of b.arena q
  right_same = field_still b.arena id birth was.arena edge (λ p. p.right) refl

  alive : (q : ℕ) → IsLive (with_birth b.arena id birth) q ↔ IsLive b.arena q
  alive q = let same = live_still b.arena id birth was.arena edge q in (λ h. sym same ∙ h, λ h. same ∙ h)

  with_edge : (q : ℕ) → HasAnEdge (with_birth b.arena id birth) q ↔ HasAnEdge b.arena q
  with_edge q = (λ h. sym (ap is_some (left_same q)) ∙ h, λ h. ap is_some (left_same q) ∙ h)

  has_ends : (q x y : ℕ) → HasEnds (with_birth b.arena id birth) q x y ↔ HasEnds b.arena q x y
  has_ends q x y = (
    λ h. (sym (ap first (list_is q)) ∙ h.0, sym (ap last (list_is q)) ∙ h.1),
    λ h. (ap first (list_is q) ∙ h.0, ap last (list_is q) ∙ h.1),
  )

  same_order : (p q : ℕ) → id_cmp (with_birth b.arena id birth) p q ≡ id_cmp b.arena p q
  same_order p q = λ i. path_cmp (weight_is p i) (list_is p i) (weight_is q i) (list_is q i)

  left_then : (k q : ℕ) → (left_of (with_birth b.arena id birth) q ≡ Some k) ↔ (left_of b.arena q ≡ Some k)
  left_then k q = (λ h. sym (left_same q) ∙ h, λ h. left_same q ∙ h)

  right_then : (k q : ℕ) → (right_of (with_birth b.arena id birth) q ≡ Some k) ↔ (right_of b.arena q ≡ Some k)
  right_then k q = (λ h. sym (right_same q) ∙ h, λ h. right_same q ∙ h)

  pub book_born : IsBook (with_new_birth b id birth)
  book_born = record {
    arena = arena_born b.arena id birth was.arena edge;
    once = λ i j live_i live_j same. was.once i j ((alive i).0 live_i) ((alive j).0 live_j)
        (sym (list_is i) ∙ same ∙ list_is j);
    marked_live = λ q m. (alive q).1 (was.marked_live q m);
    singles = was.singles;
    left_marked = λ q k is. was.left_marked q k ((left_then k q).0 is);
    right_marked = λ q k is. was.right_marked q k ((right_then k q).0 is);
    extensions = record {
      known = λ q. (
        λ h. (alive q).1 ((was.extensions.known q).0 h),
        λ live. (was.extensions.known q).1
            ((alive q).0 live),
      );
      left = λ k q. (
        λ c. (right_then k q).1 ((was.extensions.left k q).0 c),
        λ is. (was.extensions.left k q).1
            ((right_then k q).0 is),
      );
      right = λ k q. (
        λ c. (left_then k q).1 ((was.extensions.right k q).0 c),
        λ is. (was.extensions.right k q).1
            ((left_then k q).0 is),
      );
      left_star = λ k q. (
        λ c. (let h = (was.extensions.left_star k q).0 c in ((right_then k q).1 h.0, h.1)),
        λ h. (was.extensions.left_star k q).1 ((right_then k q).0 h.0, h.1),
      );
      right_star = λ k q. (
        λ c. (let h = (was.extensions.right_star k q).0 c in ((left_then k q).1 h.0, h.1)),
        λ h. (was.extensions.right_star k q).1 ((left_then k q).0 h.0, h.1),
      );
    };
  }

  counted_born : (historical : Bool) (p : List ℕ)
      → IsCounted b historical p ↔ IsCounted (with_new_birth b id birth) historical p
  counted_born historical p = (
    λ h. (h.0, (with_edge h.0).1 h.1, list_is h.0 ∙ h.2, h.3),
    λ h. (h.0, (with_edge h.0).0 h.1, sym (list_is h.0) ∙ h.2, h.3),
  )

  pub stored_born : (held : Heaps) (historical pending : ℕ) → IsStored b held historical pending
      → IsStored (with_new_birth b id birth) held historical pending
  stored_born held historical pending stored = record {
    book = book_born;
    heaps = record {
      fits = fits_agree held b.arena (with_birth b.arena id birth) stored.heaps.fits (record {
        vertices = refl;
        live = λ q is. (alive q).1 (stored.heaps.fits.live is.0 is.1 q is.2);
        lists = λ q is. list_is q;
        weights = λ q is. weight_is q;
      });
      held = λ q x y has ends. stored.heaps.held q x y ((with_edge q).0 has) ((has_ends q x y).0 ends);
      only = λ q x y c. (with_edge q).1 (stored.heaps.only q x y c);
    };
    historical_count =
        count_same (IsCounted b true) (IsCounted (with_new_birth b id birth) true) historical (counted_born true)
        stored.historical_count;
    pending_count =
        count_same (IsCounted b false) (IsCounted (with_new_birth b id birth) false) pending (counted_born false)
        stored.pending_count;
    most = stored.most;
  }

  pub least_born : (x y q : ℕ) → IsLeastKeptId (with_new_birth b id birth) x y q ↔ IsLeastKeptId b x y q
  least_born x y q = (
    λ l. record {
      live = (alive q).0 l.live;
      ends = (has_ends q x y).0 l.ends;
      least = λ r live ends below. l.least r ((alive r).1 live) ((has_ends r x y).1 ends) (same_order r q ∙ below);
    },
    λ l. record {
      live = (alive q).1 l.live;
      ends = (has_ends q x y).1 l.ends;
      least = λ r live ends below. l.least r ((alive r).0 live) ((has_ends r x y).0 ends)
          (sym (same_order r q) ∙ below);
    },
  )

  pub clean_born : (d : Dirty) → IsClean b d → IsClean (with_new_birth b id birth) d
  clean_born d clean = record {
    vertices = clean.vertices;
    clean = λ u v u_in v_in none. elim (clean.clean u v u_in v_in none) [
      | inl empty ↦ inl (λ q live ends. empty q ((alive q).0 live) ((has_ends q u v).0 ends))
      | inr least ↦ inr (least.0, (least_born u v least.0).1 least.1, least.2)
    ];
  }

-- ---- a path is forgotten that is not the least of its pair

module _ (b new : Book) (id : ℕ) (f : IsForgotten b new id) (above : (x y : ℕ) → IsLeastKeptId b x y id → ⊥) where
  path_same : (q : ℕ) → q ≢ id → path_of new.arena q ≡ path_of b.arena q
  path_same q apart =
      ap (λ a. path_of a q) f.arena ∙ ap (λ o. unwrap_or o no_path) (get_gone_other b.arena.paths id q apart)

  ends_same : (q x y : ℕ) → q ≢ id → HasEnds new.arena q x y ↔ HasEnds b.arena q x y
  ends_same q x y apart =
      let same : list_of new.arena q ≡ list_of b.arena q = ap (λ p. p.list) (path_same q apart) in (
        λ h. (sym (ap first same) ∙ h.0, sym (ap last same) ∙ h.1),
        λ h. (ap first same ∙ h.0, ap last same ∙ h.1),
      )

  order_same : (p q : ℕ) → p ≢ id → q ≢ id → id_cmp new.arena p q ≡ id_cmp b.arena p q
  order_same p q p_apart q_apart =
      λ i. path_cmp (path_same p p_apart i).weight (path_same p p_apart i).list (path_same q q_apart i).weight
      (path_same q q_apart i).list

  left_live : (q : ℕ) → IsLive new.arena q ↔ (IsLive b.arena q × (q ≢ id))
  left_live q = live_is_left b new id f q

  -- the least of a pair stays so
  pub least_left : (x y q : ℕ) → IsLeastKeptId b x y q → IsLeastKeptId new x y q
  least_left x y q l =
      let apart : q ≢ id = λ same. above x y (subst (IsLeastKeptId b x y) same l) in
      record {
        live = (left_live q).1 (l.live, apart);
        ends = (ends_same q x y apart).1 l.ends;
        least = λ r live ends below.
            let old = (left_live r).0 live in
            l.least r old.0 ((ends_same r x y old.1).0 ends) (sym (order_same r q old.1 apart) ∙ below);
      }

  pub clean_higher : (d : Dirty) → IsClean b d → IsClean new d
  clean_higher d clean = record {
    vertices = ap (λ a. a.vertices) f.arena ∙ clean.vertices;
    clean = λ u v u_in v_in none. elim (clean.clean u v u_in v_in none) [
      | inl empty ↦ inl (λ q live ends. let old = (left_live q).0 live in
          empty q old.0 ((ends_same q u v old.1).0 ends))
      | inr least ↦ inr (
        least.0,
        least_left u v least.0 least.1,
        ap (λ m. set.contains m least.0) f.marked
            ∙ marked_gone_other b.marked id least.0 (λ same. above u v (subst (IsLeastKeptId b u v) same least.1))
            ∙ least.2,
      )
    ];
  }
