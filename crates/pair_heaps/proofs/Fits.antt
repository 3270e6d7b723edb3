-- What heaps need of an arena that they fit, and when they fit it after a change.
use Rattle.std.specs.Prelude.{◌≡◌, ℕ, ◌⊎◌, List, [], Contains, Some, None, IsSome, is_some, unwrap_or, cond, true, false, ◌<◌, refl}
use Rattle.std.specs.Ordering.{nat_cmp, eq_by_cmp}
use Rattle.std.specs.Cmp.{nat_cmp_total}
use Rattle.std.specs.FinMap.{get-insert}
use Rattle.std.proofs.lemmas.Bool.{false≢true}
use Rattle.std.proofs.lemmas.Bool.Decides.{nat_tests}
use Rattle.std.proofs.Common.{sym, ◌∙◌, ap, subst, inl, inr, arith, get_or, set}
use Rattle.apsp_model.specs.Order.{path_cmp}
use Rattle.apsp_model.specs.Walk.{first, last}
use Rattle.apsp_model.proofs.Members.{in_nil as contains_nil}
use Rattle.path_arena.specs.Arena.{Arena, Path, path_at, with_path, no_path, IsArena, IsLive, list_of, weight_of_id, id_cmp}
use Rattle.pair_heaps.specs.Heaps.{Pair, Heaps, held_at, IsHeld, IsHeap, HasEnds, HeapsFit, AgreeOnHeapIds, ChangesOnly, place_of, pair_at}
use Rattle.pair_heaps.specs.Rows.{heaps_of, IsHeaps}
use Rattle.pair_heaps.proofs.Sifted.{heap_same}
use Rattle.pair_heaps.proofs.Places.{same_pair, ends_inside, at_ends, IsWritten, written}

-- the order of two ids depends on their lists and weights alone
id_cmp_same : (a b : Arena) (p q : ℕ) → list_of b p ≡ list_of a p → weight_of_id b p ≡ weight_of_id a p
    → list_of b q ≡ list_of a q → weight_of_id b q ≡ weight_of_id a q → id_cmp b p q ≡ id_cmp a p q
id_cmp_same a b p q lp wp lq wq =
    ap (λ w. path_cmp w (list_of b p) (weight_of_id b q) (list_of b q)) wp
    ∙ ap (λ l. path_cmp (weight_of_id a p) l (weight_of_id b q) (list_of b q)) lp
    ∙ ap (λ w. path_cmp (weight_of_id a p) (list_of a p) w (list_of b q)) wq
    ∙ ap (λ l. path_cmp (weight_of_id a p) (list_of a p) (weight_of_id a q) l) lq

pub fits_agree : (h : Heaps) (a b : Arena) → HeapsFit h a → AgreeOnHeapIds h a b → HeapsFit h b
fits_agree h a b fits agree = record {
  vertices = agree.vertices ∙ fits.vertices;
  live = λ x y id c. agree.live id (x, y, c);
  ends = λ x y id c. (
    ap first (agree.lists id (x, y, c)) ∙ (fits.ends x y id c).0,
    ap last (agree.lists id (x, y, c))
        ∙ (fits.ends x y id c).1,
  );
  arranged = λ x y. heap_same a b (held_at h x y)
      (λ p q c d. id_cmp_same a b p q (agree.lists p (x, y, c)) (agree.weights p (x, y, c)) (agree.lists q (x, y, d))
      (agree.weights q (x, y, d)))
      (fits.arranged x y);
}

-- heaps that hold the same ids of each pair fit the same arenas
pub fits_same : (h k : Heaps) (a : Arena) → k.vertices ≡ h.vertices → ((x y : ℕ) → held_at k x y ≡ held_at h x y)
    → HeapsFit h a → HeapsFit k a
fits_same h k a vertices same fits = record {
  vertices = fits.vertices ∙ sym vertices;
  live = λ x y id c. fits.live x y id (subst (λ ids. Contains ids id) (same x y) c);
  ends = λ x y id c. fits.ends x y id (subst (λ ids. Contains ids id) (same x y) c);
  arranged = λ x y. subst (IsHeap a) (sym (same x y)) (fits.arranged x y);
}

-- heaps that hold nothing fit every arena of as many vertices
pub fits_empty : (h : Heaps) (a : Arena) → a.vertices ≡ h.vertices → ((x y : ℕ) → held_at h x y ≡ []) → HeapsFit h a
fits_empty h a vertices none = record {
  vertices = vertices;
  live = λ x y id c. absurd (contains_nil id (subst (λ ids. Contains ids id) (none x y) c));
  ends = λ x y id c. absurd (contains_nil id (subst (λ ids. Contains ids id) (none x y) c));
  arranged = λ x y. subst (IsHeap a) (sym (none x y)) (λ i some inside. absurd (omega arith));
}

-- what the changed pair has to have
pub fits_changed : (h k : Heaps) (a : Arena) (x y : ℕ) → HeapsFit h a → ChangesOnly h k x y
    → ((id : ℕ) → Contains (held_at k x y) id → IsLive a id × HasEnds a id x y) → IsHeap a (held_at k x y)
    → HeapsFit k a
fits_changed h k a x y fits only here arranged = record {
  vertices = fits.vertices ∙ sym only.vertices;
  live = λ u v id c. elim (same_pair x y u v) [
    | inl one ↦ (here id (at_one u v id one.0 one.1 c)).0
    | inr other ↦ fits.live u v id (at_other u v id other c)
  ];
  ends = λ u v id c. elim (same_pair x y u v) [
    | inl one ↦ subst (λ w. HasEnds a id w v) (sym one.0)
        (subst (λ w. HasEnds a id x w) (sym one.1) (here id (at_one u v id one.0 one.1 c)).1)
    | inr other ↦ fits.ends u v id (at_other u v id other c)
  ];
  arranged = λ u v. elim (same_pair x y u v) [
    | inl one ↦ subst (λ w. IsHeap a (held_at k w v)) (sym one.0)
        (subst (λ w. IsHeap a (held_at k x w)) (sym one.1) arranged)
    | inr other ↦ subst (IsHeap a) (sym (ap (λ p. p.held) (only.others u v other))) (fits.arranged u v)
  ];
}
  where
    at_one : (u v id : ℕ) → u ≡ x → v ≡ y → Contains (held_at k u v) id → Contains (held_at k x y) id
    at_one u v id e f c = subst (λ w. Contains (held_at k x w) id) f (subst (λ w. Contains (held_at k w v) id) e c)

    at_other : (u v id : ℕ) → (u ≡ x → v ≡ y → ⊥) → Contains (held_at k u v) id → Contains (held_at h u v) id
    at_other u v id other c = subst (λ (p : Pair). Contains p.held id) (only.others u v other) c

-- ---- the pair of a path

pub ends_in_rows : (h : Heaps) (a : Arena) (id x y : ℕ) → HeapsFit h a → IsArena a → IsLive a id → HasEnds a id x y
    → (x < h.vertices) × (y < h.vertices)
ends_in_rows h a id x y fits lawful live ends =
    let inside : (x < a.vertices) × (y < a.vertices) = ends_inside a id x y lawful live ends in
    let as_many : a.vertices ≡ h.vertices = fits.vertices in
    (omega (arith, inside.0), omega (arith, inside.1))

-- the ids that were in the vector are live
pub live_before : (h k : Heaps) (a : Arena) (x y : ℕ) (p q : Pair) → IsWritten h k x y p q → HeapsFit h a → (id : ℕ)
    → Contains p.held id → IsLive a id
live_before h k a x y p q w fits id c = fits.live x y id (subst (λ (r : Pair). Contains r.held id) (sym w.was) c)

pub ends_before : (h k : Heaps) (a : Arena) (x y : ℕ) (p q : Pair) → IsWritten h k x y p q → HeapsFit h a → (id : ℕ)
    → Contains p.held id → HasEnds a id x y
ends_before h k a x y p q w fits id c = fits.ends x y id (subst (λ (r : Pair). Contains r.held id) (sym w.was) c)

pub arranged_before : (h k : Heaps) (a : Arena) (x y : ℕ) (p q : Pair) → IsWritten h k x y p q → HeapsFit h a
    → IsHeap a p.held
arranged_before h k a x y p q w fits = subst (λ (r : Pair). IsHeap a r.held) w.was (fits.arranged x y)

-- a held id is in the vector of its pair
pub held_before : (h k : Heaps) (a : Arena) (id x y : ℕ) (p q : Pair) → IsWritten h k x y p q → HeapsFit h a
    → HasEnds a id x y → IsHeld h id → Contains p.held id
held_before h k a id x y p q w fits ends held =
    subst (λ (r : Pair). Contains r.held id) w.was
    (at_ends a id held.0 held.1 (λ u v. Contains (held_at h u v) id) (fits.ends held.0 held.1 id held.2) held.2 x y
    ends)

-- the pair that stands at a place of the rows
pub record IsPairOf (h : Heaps) (a : Arena) (x y : ℕ) (p : Pair) : Type 0 where
  pub is : pair_at h x y ≡ p
  pub live : (id : ℕ) → Contains p.held id → IsLive a id
  pub arranged : IsHeap a p.held
  pub held : (id : ℕ) → HasEnds a id x y → IsHeld h id → Contains p.held id
  pub fresh : (id : ℕ) → (IsHeld h id → ⊥) → Contains p.held id → ⊥

pub pair_of_place : (n : ℕ) (items : List Pair) (h : Heaps) (a : Arena) (x y k : ℕ) (v : Pair) → heaps_of n items ≡ h
    → IsHeaps (heaps_of n items) → HeapsFit h a → x < h.vertices → y < h.vertices → k ≡ place_of h.vertices x y
    → v ≡ get_or items k v → IsPairOf h a x y v
pair_of_place n items h a x y k v is sound fits x_in y_in same at =
    let w : IsWritten h (heaps_of n (set items k v)) x y v v = written n items h x y k v v is sound x_in y_in same at in
    record {
      is = w.was;
      live = live_before _ _ a x y v v w fits;
      arranged = arranged_before _ _ a x y v v w fits;
      held = λ id. held_before _ _ a id x y v v w fits;
      fresh = λ id out c. out (x, y, subst (λ (p : Pair). Contains p.held id) (sym w.was) c);
    }

-- heaps that fit after one vector is replaced, where each id of it was there or is a live one of the pair
pub fits_written : (h k : Heaps) (a : Arena) (id x y : ℕ) (p q : Pair) → IsWritten h k x y p q → HeapsFit h a
    → IsLive a id → HasEnds a id x y → ((r : ℕ) → Contains q.held r → Contains p.held r ⊎ (r ≡ id)) → IsHeap a q.held
    → HeapsFit k a
fits_written h k a id x y p q w fits live ends only arranged =
    fits_changed h k a x y fits w.only
    (λ r c. elim (only r (subst (λ (s : Pair). Contains s.held r) w.now c)) [
      | inl old ↦ (live_before h k a x y p q w fits r old, ends_before h k a x y p q w fits r old)
      | inr same ↦ (subst (IsLive a) (sym same) live, subst (λ z. HasEnds a z x y) (sym same) ends)
    ])
    (subst (λ (s : Pair). IsHeap a s.held) (sym w.now) arranged)

-- ---- a path added to the arena under an id that was not live

pub record IsFreshIn (h : Heaps) (b : Arena) (id : ℕ) : Type 0 where
  pub fits : HeapsFit h b
  pub live : IsLive b id
  pub fresh : IsHeld h id → ⊥

pub fresh_in : (h : Heaps) (a b : Arena) (id : ℕ) (p : Path) → HeapsFit h a → path_at a id ≡ None → b ≡ with_path a id p
    → IsFreshIn h b id
fresh_in h a b id p fits gone added = subst (λ (m : Arena). IsFreshIn h m id) (sym added) (record {
  fits = fits_agree h a (with_path a id p) fits (record {
    vertices = refl;
    live = λ q held. subst IsSome (sym (kept q held)) (fits.live held.0 held.1 q held.2);
    lists = λ q held. ap (λ o. (unwrap_or o no_path).list) (kept q held);
    weights = λ q held. ap (λ o. (unwrap_or o no_path).weight) (kept q held);
  });
  live = ap is_some (get-insert nat_cmp_total a.paths id p id ∙ ap (λ b. cond b (Some p) (path_at a id)) same_key);
  fresh = fresh;
})
  where
    fresh : IsHeld h id → ⊥
    fresh held = false≢true (sym (ap is_some gone) ∙ fits.live held.0 held.1 id held.2)

    same_key : eq_by_cmp nat_cmp id id ≡ true
    same_key = grind (arith, nat_tests)

    other_key : (q k : ℕ) → (q ≡ k → ⊥) → eq_by_cmp nat_cmp q k ≡ false
    other_key q k apart = grind (arith, nat_tests)

    kept : (q : ℕ) → IsHeld h q → path_at (with_path a id p) q ≡ path_at a q
    kept q held =
        get-insert nat_cmp_total a.paths id p q
        ∙ ap (λ b. cond b (Some p) (path_at a q)) (other_key q id (λ same. fresh (subst (IsHeld h) same held)))
