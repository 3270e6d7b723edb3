-- What entering, marking and dropping an id leaves of the known ids.
use Rattle.std.specs.Prelude.{◌≡◌, ◌≢◌, ℕ, ◌+◌, ◌-◌, ◌*◌, ◌<◌, ◌≤◌, ◌==◌, Bool, true, false, cond, List, [], ◌∷◌, ◌++◌, length, take, Option, Some, None, refl, IsNone, is_some, Contains}
use Rattle.std.specs.List.Sorted.{IsPermutation}
use Rattle.std.specs.FinMap as map
use Rattle.std.proofs.Common.{sym, ◌∙◌, ap, subst, arith, inl, inr, get_or, set, length-set, get_or-set_same, get_or-set_other}
use Rattle.std.proofs.lemmas.Bool.{cases_eq, cases_Bool, false≢true}
use Rattle.std.proofs.lemmas.Bool.Decides.{eqb_tells}
use Rattle.std.proofs.Math.Seq.{take-append_seam}
use Rattle.std.proofs.lemmas.List.{length_push}
use Rattle.std.proofs.lemmas.List.Sorted.{IsPermutation-refl, IsPermutation-trans}
use Rattle.apsp_model.specs.Walk.{IsOnceEach}
use Rattle.id_pool.specs.Lists.{Held, IsChanged, list_at, ids_at, marked_at}
use Rattle.extension_lists.specs.Known.{Sides, Known, sides_at, no_sides, IsWithout, IsLeft, IsDropped, IsStarred, IsUnstarred, IsSameIds, added, change}
use Rattle.extension_lists.specs.Slots.{ListsStay, IsSides, known_by, sides_of, stars_at}
use Rattle.extension_lists.proofs.Places.{get-insert_same, get-insert_other, same_known}
use Rattle.extension_lists.proofs.Once.{once_permutation, once_push}
use Rattle.extension_lists.proofs.Shown.{shown, shown_true, shown_false, sides_is, same_sides, ids_other, stars_other, sound_changed, sound_same, sides_other, sides_same, put_left, put_right, known_changed, known_same}
use Rattle.extension_lists.proofs.Taken.{same_ids}

-- ---- an id is entered

flag_none : (known : List Bool) (pool : List Held) (id : ℕ) → IsNone (map.get (known_by known pool) id)
    → get_or known id false ≡ false
flag_none known pool id none = elim (cases_Bool (get_or known id false)) [
  | inl on ↦ absurd (false≢true (let gone : IsNone {T = Sides} (Some (sides_of pool id)) = subst
      (λ (o : Option Sides). IsNone o) (shown_true known pool id on) none in sym gone))
  | inr off ↦ off
]

pub sound_entered : (known : List Bool) (pool : List Held) (id : ℕ) → IsSides known pool → id < length known
    → IsSides (set known id true) pool
sound_entered known pool id sides inside = record {
  room = omega (arith, sides.room, length-set known id true);
  once = sides.once;
  empty = λ q no. elim (cases_eq q id) [
    | inl here ↦ absurd (false≢true (sym no ∙ ap (λ n. get_or (set known id true) n false) here
        ∙ get_or-set_same known id true false inside))
    | inr apart ↦ sides.empty q (sym (get_or-set_other known id q true false apart) ∙ no)
  ];
}

pub entered : (known : List Bool) (pool : List Held) (id : ℕ) → IsSides known pool → id < length known
    → IsNone (map.get (known_by known pool) id)
    → known_by (set known id true) pool ≡ map.insert (known_by known pool) id no_sides
entered known pool id sides inside none = same_known _ _ (λ q. elim (cases_eq q id) [
  | inl here ↦ subst (λ j. map.get (known_by (set known id true) pool) j ≡ map.get
      (map.insert (known_by known pool) id no_sides) j) (sym here)
      (shown_true (set known id true) pool id (get_or-set_same known id true false inside)
      ∙ ap Some (sides.empty id (flag_none known pool id none))
      ∙ sym (get-insert_same (known_by known pool) id no_sides))
  | inr apart ↦
      shown (set known id true) pool q
      ∙ ap (λ b. cond b (Some (sides_of pool q)) None) (get_or-set_other known id q true false apart)
      ∙ sym (shown known pool q)
      ∙ sym (get-insert_other (known_by known pool) id no_sides q apart)
])

-- ---- an id is marked in two lists

some_if : (b : Bool) (s : Sides) → is_some (cond b (Some s) None) ≡ b
some_if true s = refl
some_if false s = refl

pub some_shown : (known : List Bool) (pool : List Held) (q : ℕ)
    → is_some (map.get (known_by known pool) q) ≡ get_or known q false
some_shown known pool q = ap is_some (shown known pool q) ∙ some_if (get_or known q false) (sides_of pool q)

moved_any : (pool pool' : List Held) (i j : ℕ) → IsChanged pool pool' i → IsPermutation (ids_at pool i) (ids_at pool' i)
    → IsPermutation (ids_at pool j) (ids_at pool' j)
moved_any pool pool' i j changed moved = elim (cases_eq j i) [
  | inl here ↦ subst (λ n. IsPermutation (ids_at pool n) (ids_at pool' n)) (sym here) moved
  | inr apart ↦ subst (λ (xs : List ℕ). IsPermutation (ids_at pool j) xs) (sym (ids_other pool pool' i j changed apart))
      (IsPermutation-refl (ids_at pool j))
]

module _ (known : List Bool) (pool pool1 pool2 : List Held) (id l r : ℕ) (sides : IsSides known pool)
    (flag_l : get_or known l false ≡ true) (flag_r : get_or known r false ≡ true)
    (only1 : IsChanged pool pool1 (2 * l + 1)) (only2 : IsChanged pool1 pool2 (2 * r)) where
  module _ (moved1 : IsPermutation (ids_at pool (2 * l + 1)) (ids_at pool1 (2 * l + 1)))
      (moved2 : IsPermutation (ids_at pool1 (2 * r)) (ids_at pool2 (2 * r))) where
    moved : (j : ℕ) → IsPermutation (ids_at pool j) (ids_at pool2 j)
    moved j =
        IsPermutation-trans (ids_at pool j) (ids_at pool1 j) (ids_at pool2 j)
        (moved_any pool pool1 (2 * l + 1) j only1 moved1) (moved_any pool1 pool2 (2 * r) j only2 moved2)

    pub sound_starred : IsSides known pool2
    sound_starred =
        sound_changed known pool1 pool2 (2 * r) r
        (sound_changed known pool pool1 (2 * l + 1) l sides flag_l only1 (inr refl)
        (once_permutation (ids_at pool (2 * l + 1)) (ids_at pool1 (2 * l + 1)) moved1 (sides.once (2 * l + 1))))
        flag_r only2 (inl refl) (once_permutation (ids_at pool (2 * r)) (ids_at pool2 (2 * r)) (moved (2 * r))
        (sides.once (2 * r)))

    left_stays : (k : ℕ) → k ≢ r → ids_at pool2 (2 * k) ≡ ids_at pool (2 * k)
    left_stays k apart =
        ids_other pool1 pool2 (2 * r) (2 * k) only2 (λ e. apart (omega arith))
        ∙ ids_other pool pool1 (2 * l + 1) (2 * k) only1 (λ e. omega arith)

    right_stays : (k : ℕ) → k ≢ l → ids_at pool2 (2 * k + 1) ≡ ids_at pool (2 * k + 1)
    right_stays k apart =
        ids_other pool1 pool2 (2 * r) (2 * k + 1) only2 (λ e. omega arith)
        ∙ ids_other pool pool1 (2 * l + 1) (2 * k + 1) only1 (λ e. apart (omega arith))

    module _ (starred1 : stars_at pool1 (2 * l + 1) ≡ stars_at pool (2 * l + 1) ++ id ∷ [])
        (starred2 : stars_at pool2 (2 * r) ≡ stars_at pool1 (2 * r) ++ id ∷ []) where
      left_stars : (k : ℕ) → stars_at pool2 (2 * k) ≡ cond (k == r) (stars_at pool (2 * k) ++ id ∷ [])
          (stars_at pool (2 * k))
      left_stars k = elim (eqb_tells k r) [
        | inl same ↦ rw same.0 (subst (λ n. stars_at pool2 (2 * n) ≡ stars_at pool (2 * n) ++ id ∷ []) (sym same.1)
            (starred2 ∙ ap (λ (xs : List ℕ). xs ++ id ∷ [])
            (stars_other pool pool1 (2 * l + 1) (2 * r) only1 (λ e. omega arith))))
        | inr other ↦ rw other.0 (let apart : 2 * k ≡ 2 * r → ⊥ = λ e. other.1 (omega arith) in
            stars_other pool1 pool2 (2 * r) (2 * k) only2 apart
            ∙ stars_other pool pool1 (2 * l + 1) (2 * k) only1 (λ e. omega arith))
      ]

      right_stars : (k : ℕ) → stars_at pool2 (2 * k + 1) ≡ cond (k == l) (stars_at pool (2 * k + 1) ++ id ∷ [])
          (stars_at pool (2 * k + 1))
      right_stars k = elim (eqb_tells k l) [
        | inl same ↦ rw same.0 (subst (λ n. stars_at pool2 (2 * n + 1) ≡ stars_at pool (2 * n + 1) ++ id ∷ [])
            (sym same.1)
            (stars_other pool1 pool2 (2 * r) (2 * l + 1) only2 (λ e. omega arith) ∙ starred1))
        | inr other ↦ rw other.0 (let apart : 2 * k + 1 ≡ 2 * l + 1 → ⊥ = λ e. other.1 (omega arith) in
            stars_other pool1 pool2 (2 * r) (2 * k + 1) only2 (λ e. omega arith)
            ∙ stars_other pool pool1 (2 * l + 1) (2 * k + 1) only1 apart)
      ]

      before : (k : ℕ) → sides_of pool k ≡ sides_at (known_by known pool) k
      before k = sym (sides_is known pool k sides)

      after : (k : ℕ) → sides_of pool2 k ≡ sides_at (known_by known pool2) k
      after k = sym (sides_is known pool2 k sound_starred)

      pub is_starred : IsStarred (known_by known pool) (known_by known pool2) id l r
      is_starred = record {
        known = λ k. some_shown known pool2 k ∙ sym (some_shown known pool k);
        left = λ k. subst (λ (s : Sides). IsSameIds s.left (sides_at (known_by known pool2) k).left) (before k)
            (subst (λ (s : Sides). IsSameIds (sides_of pool k).left s.left) (after k)
            (same_ids (ids_at pool (2 * k)) (ids_at pool2 (2 * k)) (moved (2 * k))));
        right = λ k. subst (λ (s : Sides). IsSameIds s.right (sides_at (known_by known pool2) k).right) (before k)
            (subst (λ (s : Sides). IsSameIds (sides_of pool k).right s.right) (after k)
            (same_ids (ids_at pool (2 * k + 1)) (ids_at pool2 (2 * k + 1)) (moved (2 * k + 1))));
        left_else = λ k apart. sym (ap (λ (s : Sides). s.left) (after k)) ∙ left_stays k apart
            ∙ ap (λ (s : Sides). s.left) (before k);
        right_else = λ k apart. sym (ap (λ (s : Sides). s.right) (after k)) ∙ right_stays k apart
            ∙ ap (λ (s : Sides). s.right) (before k);
        left_star =
            λ k. sym (ap (λ (s : Sides). s.left_star) (after k)) ∙ left_stars k
            ∙ ap (λ (s : Sides). cond (k == r) (s.left_star ++ id ∷ []) s.left_star) (before k);
        right_star =
            λ k. sym (ap (λ (s : Sides). s.right_star) (after k)) ∙ right_stars k
            ∙ ap (λ (s : Sides). cond (k == l) (s.right_star ++ id ∷ []) s.right_star) (before k);
      }

    -- ---- an id is marked no more in two lists

    module _ (stars1 : IsWithout id (stars_at pool (2 * l + 1)) (stars_at pool1 (2 * l + 1)))
        (stars2 : IsWithout id (stars_at pool1 (2 * r)) (stars_at pool2 (2 * r))) where
      left_unstarred : (k : ℕ) → IsLeft (k == r) id (stars_at pool (2 * k)) (stars_at pool2 (2 * k))
      left_unstarred k = elim (eqb_tells k r) [
        | inl same ↦ rw same.0 (subst (λ n. IsWithout id (stars_at pool (2 * n)) (stars_at pool2 (2 * n))) (sym same.1)
            (subst (λ (xs : List ℕ). IsWithout id xs (stars_at pool2 (2 * r)))
            (stars_other pool pool1 (2 * l + 1) (2 * r) only1 (λ e. omega arith)) stars2))
        | inr other ↦ rw other.0 (let apart : 2 * k ≡ 2 * r → ⊥ = λ e. other.1 (omega arith) in
            stars_other pool1 pool2 (2 * r) (2 * k) only2 apart
            ∙ stars_other pool pool1 (2 * l + 1) (2 * k) only1 (λ e. omega arith))
      ]

      right_unstarred : (k : ℕ) → IsLeft (k == l) id (stars_at pool (2 * k + 1)) (stars_at pool2 (2 * k + 1))
      right_unstarred k = elim (eqb_tells k l) [
        | inl same ↦ rw same.0 (subst (λ n. IsWithout id (stars_at pool (2 * n + 1)) (stars_at pool2 (2 * n + 1)))
            (sym same.1)
            (subst (λ (xs : List ℕ). IsWithout id (stars_at pool (2 * l + 1)) xs)
            (sym (stars_other pool1 pool2 (2 * r) (2 * l + 1) only2 (λ e. omega arith))) stars1))
        | inr other ↦ rw other.0 (let apart : 2 * k + 1 ≡ 2 * l + 1 → ⊥ = λ e. other.1 (omega arith) in
            stars_other pool1 pool2 (2 * r) (2 * k + 1) only2 (λ e. omega arith)
            ∙ stars_other pool pool1 (2 * l + 1) (2 * k + 1) only1 apart)
      ]

      seen : (R : Sides → Sides → Type 0) (k : ℕ) → R (sides_of pool k) (sides_of pool2 k)
          → R (sides_at (known_by known pool) k) (sides_at (known_by known pool2) k)
      seen R k holds =
          subst (λ (s : Sides). R s (sides_at (known_by known pool2) k)) (sym (sides_is known pool k sides))
          (subst (λ (s : Sides). R (sides_of pool k) s) (sym (sides_is known pool2 k sound_starred)) holds)

      pub is_unstarred : IsUnstarred (known_by known pool) (known_by known pool2) id l r
      is_unstarred = record {
        known = λ k. some_shown known pool2 k ∙ sym (some_shown known pool k);
        left = λ k. seen (λ (s t : Sides). IsSameIds s.left t.left) k
            (same_ids (ids_at pool (2 * k)) (ids_at pool2 (2 * k)) (moved (2 * k)));
        right = λ k. seen (λ (s t : Sides). IsSameIds s.right t.right) k
            (same_ids (ids_at pool (2 * k + 1)) (ids_at pool2 (2 * k + 1)) (moved (2 * k + 1)));
        left_else = λ k apart. seen (λ (s t : Sides). t.left ≡ s.left) k (left_stays k apart);
        right_else = λ k apart. seen (λ (s t : Sides). t.right ≡ s.right) k (right_stays k apart);
        left_star = λ k. seen (λ (s t : Sides). IsLeft (k == r) id s.left_star t.left_star) k (left_unstarred k);
        right_star = λ k. seen (λ (s t : Sides). IsLeft (k == l) id s.right_star t.right_star) k (right_unstarred k);
      }

  -- ---- an id is taken out of two lists, and forgotten

  module _ (without1 : IsWithout id (ids_at pool (2 * l + 1)) (ids_at pool1 (2 * l + 1)))
      (without2 : IsWithout id (ids_at pool1 (2 * r)) (ids_at pool2 (2 * r)))
      (stars1 : IsWithout id (stars_at pool (2 * l + 1)) (stars_at pool1 (2 * l + 1)))
      (stars2 : IsWithout id (stars_at pool1 (2 * r)) (stars_at pool2 (2 * r))) (gone : sides_of pool id ≡ no_sides)
    where
      sound_taken : IsSides known pool2
      sound_taken =
          sound_changed known pool1 pool2 (2 * r) r
          (sound_changed known pool pool1 (2 * l + 1) l sides flag_l only1 (inr refl) without1.once) flag_r only2
          (inl refl) without2.once

      none_in : (xs : List ℕ) → xs ≡ [] → Contains xs id → ⊥
      none_in xs none c = let short : length xs ≡ 0 = ap length none in omega (arith, c.1)

      ids_empty : (a b : List Held) (i j : ℕ) → IsChanged a b i → IsWithout id (ids_at a i) (ids_at b i)
          → ids_at a j ≡ []
          → ids_at b j ≡ []
      ids_empty a b i j changed without none = elim (cases_eq j i) [
        | inl here ↦
            let none_i : ids_at a i ≡ [] = subst (λ n. ids_at a n ≡ []) here none in
            ap (ids_at b) here ∙ without.absent (none_in (ids_at a i) none_i) ∙ none_i
        | inr apart ↦ ids_other a b i j changed apart ∙ none
      ]

      stars_empty : (a b : List Held) (i j : ℕ) → IsChanged a b i → IsWithout id (stars_at a i) (stars_at b i)
          → stars_at a j ≡ [] → stars_at b j ≡ []
      stars_empty a b i j changed without none = elim (cases_eq j i) [
        | inl here ↦
            let none_i : stars_at a i ≡ [] = subst (λ n. stars_at a n ≡ []) here none in
            ap (stars_at b) here ∙ without.absent (none_in (stars_at a i) none_i) ∙ none_i
        | inr apart ↦ stars_other a b i j changed apart ∙ none
      ]

      still_gone : sides_of pool2 id ≡ no_sides
      still_gone =
          same_sides (sides_of pool2 id) no_sides
          (ids_empty pool1 pool2 (2 * r) (2 * id) only2 without2
          (ids_empty pool pool1 (2 * l + 1) (2 * id) only1 without1 (ap (λ (s : Sides). s.left) gone)))
          (ids_empty pool1 pool2 (2 * r) (2 * id + 1) only2 without2
          (ids_empty pool pool1 (2 * l + 1) (2 * id + 1) only1 without1 (ap (λ (s : Sides). s.right) gone)))
          (stars_empty pool1 pool2 (2 * r) (2 * id) only2 stars2
          (stars_empty pool pool1 (2 * l + 1) (2 * id) only1 stars1 (ap (λ (s : Sides). s.left_star) gone)))
          (stars_empty pool1 pool2 (2 * r) (2 * id + 1) only2 stars2
          (stars_empty pool pool1 (2 * l + 1) (2 * id + 1) only1 stars1 (ap (λ (s : Sides). s.right_star) gone)))

      pub sound_dropped : IsSides (set known id false) pool2
      sound_dropped = record {
        room = omega (arith, sound_taken.room, length-set known id false);
        once = sound_taken.once;
        empty = λ q no. elim (cases_eq q id) [
          | inl here ↦ ap (sides_of pool2) here ∙ still_gone
          | inr apart ↦ sound_taken.empty q (sym (get_or-set_other known id q false false apart) ∙ no)
        ];
      }

      left_ids : (k : ℕ) → IsLeft (k == r) id (ids_at pool (2 * k)) (ids_at pool2 (2 * k))
      left_ids k = elim (eqb_tells k r) [
        | inl same ↦ rw same.0 (subst (λ n. IsWithout id (ids_at pool (2 * n)) (ids_at pool2 (2 * n))) (sym same.1)
            (subst (λ (xs : List ℕ). IsWithout id xs (ids_at pool2 (2 * r)))
            (ids_other pool pool1 (2 * l + 1) (2 * r) only1 (λ e. omega arith)) without2))
        | inr other ↦ rw other.0 (let apart : 2 * k ≡ 2 * r → ⊥ = λ e. other.1 (omega arith) in
            ids_other pool1 pool2 (2 * r) (2 * k) only2 apart
            ∙ ids_other pool pool1 (2 * l + 1) (2 * k) only1 (λ e. omega arith))
      ]

      left_stars_taken : (k : ℕ) → IsLeft (k == r) id (stars_at pool (2 * k)) (stars_at pool2 (2 * k))
      left_stars_taken k = elim (eqb_tells k r) [
        | inl same ↦ rw same.0 (subst (λ n. IsWithout id (stars_at pool (2 * n)) (stars_at pool2 (2 * n))) (sym same.1)
            (subst (λ (xs : List ℕ). IsWithout id xs (stars_at pool2 (2 * r)))
            (stars_other pool pool1 (2 * l + 1) (2 * r) only1 (λ e. omega arith)) stars2))
        | inr other ↦ rw other.0 (let apart : 2 * k ≡ 2 * r → ⊥ = λ e. other.1 (omega arith) in
            stars_other pool1 pool2 (2 * r) (2 * k) only2 apart
            ∙ stars_other pool pool1 (2 * l + 1) (2 * k) only1 (λ e. omega arith))
      ]

      right_ids : (k : ℕ) → IsLeft (k == l) id (ids_at pool (2 * k + 1)) (ids_at pool2 (2 * k + 1))
      right_ids k = elim (eqb_tells k l) [
        | inl same ↦ rw same.0 (subst (λ n. IsWithout id (ids_at pool (2 * n + 1)) (ids_at pool2 (2 * n + 1)))
            (sym same.1)
            (subst (λ (xs : List ℕ). IsWithout id (ids_at pool (2 * l + 1)) xs)
            (sym (ids_other pool1 pool2 (2 * r) (2 * l + 1) only2 (λ e. omega arith))) without1))
        | inr other ↦ rw other.0 (let apart : 2 * k + 1 ≡ 2 * l + 1 → ⊥ = λ e. other.1 (omega arith) in
            ids_other pool1 pool2 (2 * r) (2 * k + 1) only2 (λ e. omega arith)
            ∙ ids_other pool pool1 (2 * l + 1) (2 * k + 1) only1 apart)
      ]

      right_stars_taken : (k : ℕ) → IsLeft (k == l) id (stars_at pool (2 * k + 1)) (stars_at pool2 (2 * k + 1))
      right_stars_taken k = elim (eqb_tells k l) [
        | inl same ↦ rw same.0 (subst (λ n. IsWithout id (stars_at pool (2 * n + 1)) (stars_at pool2 (2 * n + 1)))
            (sym same.1)
            (subst (λ (xs : List ℕ). IsWithout id (stars_at pool (2 * l + 1)) xs)
            (sym (stars_other pool1 pool2 (2 * r) (2 * l + 1) only2 (λ e. omega arith))) stars1))
        | inr other ↦ rw other.0 (let apart : 2 * k + 1 ≡ 2 * l + 1 → ⊥ = λ e. other.1 (omega arith) in
            stars_other pool1 pool2 (2 * r) (2 * k + 1) only2 (λ e. omega arith)
            ∙ stars_other pool pool1 (2 * l + 1) (2 * k + 1) only1 apart)
      ]

      both_ends : (here : Bool) (part : Sides → List ℕ) (k : ℕ)
          → IsLeft here id (part (sides_of pool k)) (part (sides_of pool2 k))
          → IsLeft here id (part (sides_at (known_by known pool) k))
          (part (sides_at (known_by (set known id false) pool2) k))
      both_ends here part k left =
          subst (λ (s : Sides). IsLeft here id (part s) (part (sides_at (known_by (set known id false) pool2) k)))
          (sym (sides_is known pool k sides))
          (subst (λ (s : Sides). IsLeft here id (part (sides_of pool k)) (part s))
          (sym (sides_is (set known id false) pool2 k sound_dropped)) left)

      pub is_dropped : id < length known → IsDropped (known_by known pool) (known_by (set known id false) pool2) id l r
      is_dropped inside = record {
        forgotten = shown_false (set known id false) pool2 id (get_or-set_same known id false false inside);
        known = λ k apart. some_shown (set known id false) pool2 k ∙ get_or-set_other known id k false false apart
            ∙ sym (some_shown known pool k);
        left = λ k apart. both_ends (k == r) (λ s. s.left) k (left_ids k);
        right = λ k apart. both_ends (k == l) (λ s. s.right) k (right_ids k);
        left_star = λ k apart. both_ends (k == r) (λ s. s.left_star) k (left_stars_taken k);
        right_star = λ k apart. both_ends (k == l) (λ s. s.right_star) k (right_stars_taken k);
      }

-- ---- an id is put behind two lists

module _ (known : List Bool) (pool pool1 pool2 pool3 : List Held) (id l r : ℕ) (sides : IsSides known pool)
    (flag_l : get_or known l false ≡ true) (flag_r : get_or known r false ≡ true) (same : ListsStay pool pool1)
    (only2 : IsChanged pool1 pool2 (2 * l + 1)) (only3 : IsChanged pool2 pool3 (2 * r))
    (put2 : ids_at pool2 (2 * l + 1) ≡ ids_at pool1 (2 * l + 1) ++ id ∷ [])
    (put3 : ids_at pool3 (2 * r) ≡ ids_at pool2 (2 * r) ++ id ∷ []) where
  pub sound_added : (Contains (ids_at pool (2 * l + 1)) id → ⊥) → (Contains (ids_at pool (2 * r)) id → ⊥)
      → IsSides known pool3
  sound_added new_right new_left =
      let sides1 : IsSides known pool1 = sound_same known pool pool1 sides same in
      let sides2 : IsSides known pool2 = sound_changed known pool1 pool2 (2 * l + 1) l sides1 flag_l only2 (inr refl)
      (subst IsOnceEach (sym put2) (once_push (ids_at pool1 (2 * l + 1)) id (sides1.once (2 * l + 1))
      (λ c. new_right (subst (λ (xs : List ℕ). Contains xs id) (same.ids (2 * l + 1)) c)))) in
      let left_is : ids_at pool2 (2 * r) ≡ ids_at pool (2 * r) =
      ids_other pool1 pool2 (2 * l + 1) (2 * r) only2 (λ e. omega arith) ∙ same.ids (2 * r) in
      sound_changed known pool2 pool3 (2 * r) r sides2 flag_r only3 (inl refl)
      (subst IsOnceEach (sym put3) (once_push (ids_at pool2 (2 * r)) id (sides2.once (2 * r))
      (λ c. new_left (subst (λ (xs : List ℕ). Contains xs id) left_is c))))

  pub is_added : marked_at pool2 (2 * l + 1) ≡ marked_at pool1 (2 * l + 1)
      → marked_at pool1 (2 * l + 1) ≤ length (ids_at pool1 (2 * l + 1))
      → marked_at pool3 (2 * r) ≡ marked_at pool2 (2 * r) → marked_at pool2 (2 * r) ≤ length (ids_at pool2 (2 * r))
      → known_by known pool3 ≡ added (known_by known pool) id l r
  is_added marked2 most2 marked3 most3 =
      known_changed known pool2 pool3 r (λ s. record s { left = s.left ++ id ∷ [] }) flag_r
      (λ q apart. sides_other pool2 pool3 (2 * r) r q only3 (inl refl) apart)
      (put_left pool2 pool3 r id only3 put3 marked3 most3)
      ∙ ap (λ (m : Known). change m r (λ s. record s { left = s.left ++ id ∷ [] }))
      (known_changed known pool1 pool2 l (λ s. record s { right = s.right ++ id ∷ [] }) flag_l
      (λ q apart. sides_other pool1 pool2 (2 * l + 1) l q only2 (inr refl) apart)
      (put_right pool1 pool2 l id only2 put2 marked2 most2)
      ∙ ap (λ (m : Known). change m l (λ s. record s { right = s.right ++ id ∷ [] }))
      (known_same known pool pool1 (λ q. sides_same pool pool1 q same)))

-- ---- an id is put behind the first of two lists and taken back

pub same_all : (pool : List Held) → ListsStay pool pool
same_all pool = record { many = refl; ids = λ i. refl; marked = λ i. refl }

without_last : (xs ys : List ℕ) (id : ℕ) → ys ≡ xs ++ id ∷ [] → take (length ys - 1) ys ≡ xs
without_last xs ys id is =
    ap (λ (zs : List ℕ). take (length zs - 1) zs) is
    ∙ (let many : length (xs ++ id ∷ []) - 1 ≡ length xs = omega (arith, length_push xs id) in
    ap (λ n. take n (xs ++ id ∷ [])) many)
    ∙ take-append_seam xs (id ∷ [])

pub same_back : (pool pool2 pool3 pool4 : List Held) (i id : ℕ) → IsChanged pool pool2 i
    → ids_at pool2 i ≡ ids_at pool i ++ id ∷ [] → marked_at pool2 i ≡ marked_at pool i → pool3 ≡ pool2
    → IsChanged pool3 pool4 i → ids_at pool4 i ≡ take (length (ids_at pool3 i) - 1) (ids_at pool3 i)
    → marked_at pool4 i ≡ marked_at pool3 i → ListsStay pool pool4
same_back pool pool2 pool3 pool4 i id only2 ids2 marked2 is only4 ids4 marked4 = record {
  many = only4.many ∙ ap length is ∙ only2.many;
  ids = λ j. elim (cases_eq j i) [
    | inl here ↦ subst (λ n. ids_at pool4 n ≡ ids_at pool n) (sym here)
        (ids4 ∙ without_last (ids_at pool i) (ids_at pool3 i) id (ap (λ (p : List Held). ids_at p i) is ∙ ids2))
    | inr apart ↦ ids_other pool3 pool4 i j only4 apart ∙ ap (λ (p : List Held). ids_at p j) is
        ∙ ids_other pool pool2 i j only2 apart
  ];
  marked = λ j. elim (cases_eq j i) [
    | inl here ↦ subst (λ n. marked_at pool4 n ≡ marked_at pool n) (sym here)
        (marked4 ∙ ap (λ (p : List Held). marked_at p i) is ∙ marked2)
    | inr apart ↦ ap (λ (h : Held). h.marked)
        (only4.others j apart ∙ ap (λ (p : List Held). list_at p j) is ∙ only2.others j apart)
  ];
}

pub known_back : (known : List Bool) (pool pool4 : List Held) → ListsStay pool pool4
    → known_by known pool4 ≡ known_by known pool
known_back known pool pool4 same = known_same known pool pool4 (λ q. sides_same pool pool4 q same)
