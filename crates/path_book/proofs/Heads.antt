-- The least paths of pairs that are not historical, listed pair by pair.
use Rattle.std.specs.Prelude.{◌≡◌, ℕ, zero, suc, ◌+◌, ◌<◌, ◌≤◌, ◌⊎◌, Bool, true, false, cond, List, [], ◌∷◌, ◌++◌, length, take, refl, Contains, get_or, slice_index_or}
use Rattle.std.proofs.Common.{sym, ◌∙◌, ap, subst, arith, inl, inr}
use Rattle.std.proofs.lemmas.List.{take_more, take_all, get_or_default}
use Rattle.std.proofs.lemmas.List.Elements.{Contains-append_left, Contains-append_right, Contains-push_cases}
use Rattle.apsp_model.specs.Walk.{IsOnceEach}
use Rattle.apsp_model.proofs.Members.{in_cons, in_nil, head_in, once_append}
use Rattle.path_book.specs.Book.{Book, HasNoPendingLeast, IsPendingLeast, ArePendingLeasts}
use Rattle.path_book.specs.Dirty.{Dirty, flag_at}
use Rattle.path_book.specs.Layout.{AreHeadsOf, IsClean}
use Rattle.path_book.proofs.Formed.{ends_alike}

once_before : {A : Type 0} (xs : List A) (i : ℕ) (x : A) → IsOnceEach xs → i < length xs → x ≡ get_or xs i x
    → Contains (take i xs) x → ⊥
once_before [] i x once inside at c = let k : ⊥ = omega (arith, inside) in k
once_before (y ∷ xs) zero x once inside at c = in_nil x c
once_before (y ∷ xs) (suc i) x once inside at c = elim (in_cons x y (take i xs) c) [
  | inl same ↦ once.0 (subst (Contains xs) (sym same) (i, omega (arith, inside), sym at))
  | inr more ↦ once_before xs i x once.1 (omega (arith, inside)) at more
]

pub heads_none : (b : Book) (pairs : List (ℕ × ℕ)) (ids : List ℕ) → ids ≡ [] → AreHeadsOf b (take 0 pairs) ids
heads_none b pairs ids none =
    subst (AreHeadsOf b (take 0 pairs)) (sym none)
    (record { looked = λ p c. absurd (in_nil p c); only = λ id c. absurd (in_nil id c); once = tt })

-- the pair of an index stands in the list
pub pair_in : (pairs : List (ℕ × ℕ)) (i : ℕ) → i < length pairs → Contains pairs (slice_index_or pairs i (0, 0))
pair_in pairs i inside = (i, inside, get_or_default pairs i (slice_index_or pairs i (0, 0)) (0, 0) inside)

-- one pair more
module _ (b : Book) (pairs : List (ℕ × ℕ)) (i : ℕ) (p : ℕ × ℕ) (ids : List ℕ) (s : AreHeadsOf b (take i pairs) ids)
    (inside : i < length pairs) (at : p ≡ get_or pairs i p) where
  next : take (i + 1) pairs ≡ take i pairs ++ p ∷ []
  next = take_more pairs i p inside ∙ ap (λ q. take i pairs ++ q ∷ []) (sym at)

  pub heads_without : HasNoPendingLeast b p.0 p.1 → AreHeadsOf b (take (i + 1) pairs) ids
  heads_without none = subst (λ ps. AreHeadsOf b ps ids) (sym next) (record {
    looked = λ q c. elim (Contains-push_cases (take i pairs) p q c) [
      | inl old ↦ s.looked q old
      | inr new ↦ subst (λ (r : ℕ × ℕ). HasNoPendingLeast b r.0 r.1
          ⊎ ((id : ℕ) × IsPendingLeast b r.0 r.1 id × Contains ids id)) new (inl none)
    ];
    only = λ id c. (let h = s.only id c in (h.0, Contains-append_left (take i pairs) (p ∷ []) h.0 h.1, h.2));
    once = s.once;
  })

  pub heads_with : (id : ℕ) → IsPendingLeast b p.0 p.1 id → IsOnceEach pairs
      → AreHeadsOf b (take (i + 1) pairs) (ids ++ id ∷ [])
  heads_with id pending each = subst (λ ps. AreHeadsOf b ps (ids ++ id ∷ [])) (sym next) (record {
    looked = λ q c. elim (Contains-push_cases (take i pairs) p q c) [
      | inl old ↦ elim (s.looked q old) [
        | inl none ↦ inl none
        | inr head ↦ inr (head.0, head.1, Contains-append_left ids (id ∷ []) head.0 head.2)
      ]
      | inr new ↦ subst (λ (r : ℕ × ℕ). HasNoPendingLeast b r.0 r.1
          ⊎ ((k : ℕ) × IsPendingLeast b r.0 r.1 k × Contains (ids ++ id ∷ []) k)) new
          (inr (id, pending, Contains-append_right ids (id ∷ []) id (head_in id id [] refl)))
    ];
    only = λ k c. elim (Contains-push_cases ids id k c) [
      | inl old ↦ let h = s.only k old in (h.0, Contains-append_left (take i pairs) (p ∷ []) h.0 h.1, h.2)
      | inr new ↦ (
        p,
        Contains-append_right (take i pairs) (p ∷ []) p (head_in p p [] refl),
        subst
            (IsPendingLeast b p.0 p.1) new pending,
      )
    ];
    once = once_append ids (id ∷ []) s.once (in_nil id, tt) (λ k old new. (
        let same : id ≡ k = elim (in_cons k id [] new) [ inl e ↦ e | inr none ↦ absurd (in_nil k none) ] in
        let h = s.only k old in
        let here : IsPendingLeast b h.0.0 h.0.1 id = subst (IsPendingLeast b h.0.0 h.0.1) (sym same) h.2 in
        let ends = ends_alike b.arena id h.0.0 h.0.1 p.0 p.1 here.0.ends pending.0.ends in
        let one : h.0 ≡ p = λ j. (sym ends.0 j, sym ends.1 j) in
        once_before pairs i p each inside at (subst (Contains (take i pairs)) one h.1)
        ));
  })

pub heads_all : (b : Book) (pairs : List (ℕ × ℕ)) (i : ℕ) (ids : List ℕ) → length pairs ≤ i
    → AreHeadsOf b (take i pairs) ids → AreHeadsOf b pairs ids
heads_all b pairs i ids past s = subst (λ ps. AreHeadsOf b ps ids) (take_all i pairs past) s

-- what the dirty pairs show where they are listed one by one
pub pending_leasts : (b : Book) (d : Dirty) (pairs : List (ℕ × ℕ)) (ids : List ℕ) → IsClean b d → d.all ≡ false
    → ((p : ℕ × ℕ) → Contains pairs p → (p.0 < d.vertices) × (p.1 < d.vertices))
    → ((x y : ℕ) → x < d.vertices → y < d.vertices → flag_at d x y ≡ true → Contains pairs (x, y))
    → AreHeadsOf b pairs ids → ArePendingLeasts b b.arena.vertices ids
pending_leasts b d pairs ids clean listed inside all s = record {
  pairs = λ x y x_in y_in. here x y (subst (λ n. x < n) clean.vertices x_in) (subst (λ n. y < n) clean.vertices y_in)
      (flag_at d x y) refl;
  only = λ id c. (
      let h = s.only id c in
      let l = inside h.0 h.1 in (
        h.0.0,
        h.0.1,
        subst (λ n. h.0.0 < n) (sym clean.vertices) l.0,
        subst (λ n. h.0.1 < n) (sym clean.vertices) l.1,
        h.2,
      )
      );
  once = s.once;
}
  where
    here : (x y : ℕ) → x < d.vertices → y < d.vertices → (f : Bool) → flag_at d x y ≡ f → HasNoPendingLeast b x y
        ⊎ ((id : ℕ) × IsPendingLeast b x y id × Contains ids id)
    here x y x_in y_in true up = s.looked (x, y) (all x y x_in y_in up)
    here x y x_in y_in false down =
        inl (clean.clean x y x_in y_in (ap (λ a. cond a true (flag_at d x y)) listed ∙ down))
