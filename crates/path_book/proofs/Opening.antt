-- The book of the single vertices.
use Rattle.std.specs.Prelude.{◌≡◌, ℕ, ◌+◌, ◌<◌, Bool, true, IsTrue, List, [], length, slice_set, Option, Some, None, IsNone, is_some, unwrap_or, refl, Contains}
use Rattle.std.specs.Ordering.{nat_cmp}
use Rattle.std.specs.FinMap as map
use Rattle.std.specs.FinSet as set
use Rattle.std.proofs.Common.{sym, ◌∙◌, ap, subst, arith, inl, inr}
use Rattle.std.proofs.lemmas.Bool.{cases_eq, cases_lt, false≢true}
use Rattle.apsp_model.specs.Walk.{first}
use Rattle.path_arena.proofs.Keys.{get_put}
use Rattle.apsp_model.proofs.Members.{in_nil}
use Rattle.apsp_model.proofs.Counting.{count_none}
use Rattle.path_arena.specs.Arena.{Path, Arena, path_at, vertex_of, IsLive, path_of, list_of, left_of, right_of, HasAnEdge, single, no_path, IsArena, IsOpening}
use Rattle.path_arena.proofs.Paths.{live_from, live_from_edge, path_of_at}
use Rattle.pair_heaps.specs.Heaps.{Heaps, held_at, HeapsFit}
use Rattle.extension_lists.specs.Known.{Sides, Known, no_sides, IsKnown, sides_at}
use Rattle.path_book.specs.Layout.{marked_in, IsOpenedTo, IsStored}
use Rattle.path_book.proofs.Places.{marked_set, contains-marked_in}
use Rattle.path_book.proofs.Sets.{marked_put, marked_put_other}
use Rattle.path_book.proofs.Sides.{sides_other, known_put}

pub opened_none : (a : Arena) (lists : Known) (marks : List Bool) → lists ≡ map.empty → marks ≡ []
    → IsOpenedTo a lists marks 0
opened_none a lists marks e f = record {
  known = λ id h. absurd (false≢true (sym (ap is_some (ap (λ m. map.get m id) e ∙ map.get-empty nat_cmp id)) ∙ h));
  to_known = λ u l. absurd (omega arith);
  empty = λ id. ap (λ m. sides_at m id) e ∙ ap (λ o. unwrap_or o no_sides) (map.get-empty nat_cmp id);
  marked = λ id h. absurd (false≢true (sym (ap (λ m. set.contains (marked_in m) id) f ∙ contains-marked_in [] id) ∙ h));
  to_marked = λ u l. absurd (omega arith);
}

-- two single vertices have two ids
pub vertices_apart : (a : Arena) (u v : ℕ) → IsArena a → u < a.vertices → v < a.vertices → vertex_of a u ≡ vertex_of a v
    → u ≡ v
vertices_apart a u v h l k same =
    let two : Some (single u) ≡ Some (single v) = sym (h.singles u l) ∙ ap (path_at a) same ∙ h.singles v k in
    let paths : single u ≡ single v = cc in
    let heads : Some u ≡ Some v = ap (λ p. first p.list) paths in
    cc

pub not_known_yet : (a : Arena) (lists : Known) (marks : List Bool) (v id : ℕ) → IsArena a → v < a.vertices
    → id ≡ vertex_of a v → IsOpenedTo a lists marks v → IsNone (map.get lists id)
not_known_yet a lists marks v id h l is opened = go (map.get lists id) refl
  where
    go : (o : Option Sides) → map.get lists id ≡ o → IsNone (map.get lists id)
    go None e = ap is_some e
    go (Some s) e =
        let k = opened.known id (ap is_some e) in
        let less : k.0 < v = k.1 in
        let same : k.0 ≡ v = vertices_apart a k.0 v h (omega arith) l (sym k.2 ∙ is) in
        absurd (omega arith)

pub opened_more : (a : Arena) (lists later : Known) (marks room : List Bool) (v id key : ℕ) → IsArena a → v < a.vertices
    → id ≡ vertex_of a v → IsOpenedTo a lists marks v → later ≡ map.insert lists id no_sides
    → marked_in room ≡ marked_in marks → key ≡ id → key < length room
    → IsOpenedTo a later (slice_set room key true) (v + 1)
opened_more a lists later marks room v id key h l is opened entered same here within = record {
  known = λ q k. (elim ((known_put lists id no_sides q).0 (subst (λ m. IsKnown m q) entered k)) [
    | inl before ↦ (let old = opened.known q before in let less : old.0 < v = old.1 in (old.0, omega arith, old.2))
    | inr now ↦ (v, omega arith, now ∙ is)
  ]);
  to_known =
      λ u k. subst (λ m. IsKnown m (vertex_of a u)) (sym entered)
      ((known_put lists id no_sides (vertex_of a u)).1 (elim (cases_lt u v) [
        | inl less ↦ inl (opened.to_known u less)
        | inr more ↦ inr (let e : u ≡ v = omega arith in ap (vertex_of a) e ∙ sym is)
      ]));
  empty = λ q. ap (λ m. sides_at m q) entered ∙ elim (cases_eq q id) [
    | inl e ↦ ap (sides_at (map.insert lists id no_sides)) e
        ∙ ap (λ o. unwrap_or o no_sides) (get_put lists id no_sides)
    | inr apart ↦ sides_other lists id no_sides q apart ∙ opened.empty q
  ];
  marked = λ q k. elim (cases_eq q id) [
    | inl e ↦ (v, omega arith, e ∙ is)
    | inr apart ↦
        let was : IsTrue (set.contains (marked_in marks) q) =
        sym (ap (λ s. set.contains s q) marks_are ∙ marked_put_other (marked_in marks) id q apart) ∙ k in
        let old = opened.marked q was in
        let less : old.0 < v = old.1 in
        (old.0, omega arith, old.2)
  ];
  to_marked = λ u k. ap (λ s. set.contains s (vertex_of a u)) marks_are ∙ elim (cases_eq (vertex_of a u) id) [
    | inl e ↦ ap (set.contains (set.insert (marked_in marks) id)) e ∙ marked_put (marked_in marks) id
    | inr apart ↦ marked_put_other (marked_in marks) id (vertex_of a u) apart
        ∙ opened.to_marked u (elim (cases_lt u v) [
          | inl less ↦ less
          | inr more ↦ absurd (apart (let e : u ≡ v = omega arith in ap (vertex_of a) e ∙ sym is))
        ])
  ];
}
  where
    marks_are : marked_in (slice_set room key true) ≡ set.insert (marked_in marks) id
    marks_are = marked_set room key within ∙ (λ i. set.insert (same i) (here i))

-- all single vertices make a book
pub opened_all : (a : Arena) (h : Heaps) (lists : Known) (marks : List Bool) (n : ℕ) → IsArena a → IsOpening a n
    → HeapsFit h a → ((x y : ℕ) → held_at h x y ≡ []) → IsOpenedTo a lists marks n
    → IsStored (record { arena = a; marked = marked_in marks; lists = lists }) h 0 0
opened_all a h lists marks n lawful opening fits none opened = record {
  book = record {
    arena = lawful;
    once = once;
    marked_live = λ id k. (let u = opened.marked id k in subst (IsLive a) (sym u.2) (vertex_live u.0 u.1));
    singles = λ v l. opened.to_marked v (omega (arith, opening.vertices));
    left_marked = λ id k e. absurd (no_left id k e);
    right_marked = λ id k e. absurd (no_right id k e);
    extensions = record {
      known = λ id. (
        λ k. (let u = opened.known id k in subst (IsLive a) (sym u.2) (vertex_live u.0 u.1)),
        λ live. (let u = opening.live id live in subst (IsKnown lists) (sym u.2) (opened.to_known u.0 u.1)),
      );
      left = λ k q. (
        λ c. absurd (in_nil q (subst (λ (s : Sides). Contains s.left q) (opened.empty k) c)),
        λ e. absurd
            (no_right q k e),
      );
      right = λ k q. (
        λ c. absurd (in_nil q (subst (λ (s : Sides). Contains s.right q) (opened.empty k) c)),
        λ e. absurd
            (no_left q k e),
      );
      left_star =
          λ k q. (
            λ c. absurd (in_nil q (subst (λ (s : Sides). Contains s.left_star q) (opened.empty k) c)),
            λ e. absurd
                (no_right q k e.0),
          );
      right_star =
          λ k q. (
            λ c. absurd (in_nil q (subst (λ (s : Sides). Contains s.right_star q) (opened.empty k) c)),
            λ e.
                absurd (no_left q k e.0),
          );
    };
  };
  heaps = record {
    fits = fits;
    held = λ id x y edge ends. absurd (no_edge id edge);
    only = λ id x y c. absurd (in_nil id (subst (λ xs. Contains xs id) (none x y) c));
  };
  historical_count = count_none _ (λ p c. no_edge c.0 c.1);
  pending_count = count_none _ (λ p c. no_edge c.0 c.1);
  most = omega arith;
}
  where
    vertex_live : (u : ℕ) → u < n → IsLive a (vertex_of a u)
    vertex_live u l = live_from a (vertex_of a u) (single u) (lawful.singles u (omega (arith, opening.vertices)))

    -- the path of a live id
    single_of : (id : ℕ) → IsLive a id → (u : ℕ) × (u < n) × (id ≡ vertex_of a u) × (path_of a id ≡ single u)
    single_of id live =
        let u = opening.live id live in (
          u.0,
          u.1,
          u.2,
          ap (path_of a) u.2
              ∙ path_of_at a (vertex_of a u.0) (single u.0) (lawful.singles u.0 (omega (arith, opening.vertices, u.1))),
        )

    no_part : (part : Path → Option ℕ) → part no_path ≡ None → ((u : ℕ) → part (single u) ≡ None) → (id k : ℕ)
        → part (path_of a id) ≡ Some k → ⊥
    no_part part lacks alone id k e = go (path_at a id) refl
      where
        go : (o : Option Path) → path_at a id ≡ o → ⊥
        go None f = (let two : None ≡ Some k = sym (ap (λ o. part (unwrap_or o no_path)) f ∙ lacks) ∙ e in cc)
        go (Some p) f =
            let u = single_of id (ap is_some f) in
            (let two : None ≡ Some k = sym (ap part u.3 ∙ alone u.0) ∙ e in cc)

    no_left : (id k : ℕ) → left_of a id ≡ Some k → ⊥
    no_left id k e = no_part (λ p. p.left) refl (λ u. refl) id k e

    no_right : (id k : ℕ) → right_of a id ≡ Some k → ⊥
    no_right id k e = no_part (λ p. p.right) refl (λ u. refl) id k e

    no_edge : (id : ℕ) → HasAnEdge a id → ⊥
    no_edge id edge =
        let u = single_of id (live_from_edge a id lawful edge) in
        false≢true (sym (ap (λ p. is_some p.left) u.3) ∙ edge)

    once : (i j : ℕ) → IsLive a i → IsLive a j → list_of a i ≡ list_of a j → i ≡ j
    once i j live_i live_j same =
        let u = single_of i live_i in
        let w = single_of j live_j in
        let heads : Some u.0 ≡ Some w.0 =
        sym (ap (λ p. first p.list) u.3) ∙ ap first same ∙ ap (λ p. first p.list) w.3 in
        let one : u.0 ≡ w.0 = cc in
        u.2 ∙ ap (vertex_of a) one ∙ sym w.2
