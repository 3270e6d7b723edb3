-- An id leaves one list, or the lists of a key are emptied.
use Rattle.std.specs.Prelude.{◌≡◌, ℕ, ◌<◌, ◌+◌, ◌*◌, ◌==◌, Bool, true, false, cond, List, length, take, Some, None, refl}
use Rattle.std.specs.FinMap as map
use Rattle.std.proofs.Common.{sym, ◌∙◌, ap, subst, arith, inl, inr, get_or, set, length-set, get_or-set_same, get_or-set_other}
use Rattle.std.proofs.lemmas.Bool.{cases_eq, false≢true}
use Rattle.std.proofs.lemmas.Bool.Decides.{eqb_tells}
use Rattle.apsp_model.specs.Walk.{IsOnceEach}
use Rattle.id_pool.specs.Lists.{Held, IsChanged, list_at, ids_at, no_ids}
use Rattle.extension_lists.specs.Known.{Sides, sides_at, no_sides, IsWithout, IsLeft, IsTakenFromLeft, IsTakenFromRight}
use Rattle.extension_lists.specs.Slots.{IsCleared, IsSides, known_by, sides_of, stars_at}
use Rattle.extension_lists.proofs.Places.{get-remove_same, get-remove_other, same_known}
use Rattle.extension_lists.proofs.Shown.{shown, shown_false, sides_is, same_sides, ids_other, stars_other, sides_other, sound_changed, known_changed}
use Rattle.extension_lists.proofs.Whole.{some_shown}

-- ---- both lists of a key are emptied

pub cleared : (pool pool1 pool2 : List Held) (k : ℕ) → IsChanged pool pool1 (2 * k) → list_at pool1 (2 * k) ≡ no_ids
    → IsChanged pool1 pool2 (2 * k + 1) → list_at pool2 (2 * k + 1) ≡ no_ids → IsCleared pool pool2 k
cleared pool pool1 pool2 k only1 none1 only2 none2 = record {
  many = only2.many ∙ only1.many;
  once = λ i once. elim (cases_eq i (2 * k + 1)) [
    | inl right ↦ empty pool2 i (2 * k + 1) right none2
    | inr apart2 ↦ subst IsOnceEach (sym (ids_other pool1 pool2 (2 * k + 1) i only2 apart2))
        (elim (cases_eq i (2 * k)) [
          | inl left ↦ empty pool1 i (2 * k) left none1
          | inr apart1 ↦ subst IsOnceEach (sym (ids_other pool pool1 (2 * k) i only1 apart1)) once
        ])
  ];
  none = same_sides (sides_of pool2 k) no_sides
      (ids_other pool1 pool2 (2 * k + 1) (2 * k) only2 (λ same. omega arith) ∙ ap (λ (h : Held). h.ids) none1)
      (ap (λ (h : Held). h.ids) none2)
      (stars_other pool1 pool2 (2 * k + 1) (2 * k) only2 (λ same. omega arith)
      ∙ ap (λ (h : Held). take h.marked h.ids) none1)
      (ap (λ (h : Held). take h.marked h.ids) none2);
  others = λ q apart. sides_other pool1 pool2 (2 * k + 1) k q only2 (inr refl) apart
      ∙ sides_other pool pool1 (2 * k) k q only1 (inl refl) apart;
}
  where
    empty : (p : List Held) (i j : ℕ) → i ≡ j → list_at p j ≡ no_ids → IsOnceEach (ids_at p i)
    empty p i j same none = subst IsOnceEach (sym (ap (ids_at p) same ∙ ap (λ (h : Held). h.ids) none)) tt

module _ (known : List Bool) (pool pool' : List Held) (k : ℕ) (sides : IsSides known pool)
    (flag : get_or known k false ≡ true) (c : IsCleared pool pool' k) where
  pub sound_cleared : IsSides known pool'
  sound_cleared = record {
    room = omega (arith, sides.room, c.many);
    once = λ i. c.once i (sides.once i);
    empty = λ q no. c.others q (λ same. false≢true (sym no ∙ ap (λ n. get_or known n false) same ∙ flag))
        ∙ sides.empty q no;
  }

  pub is_cleared : known_by known pool' ≡ map.insert (known_by known pool) k no_sides
  is_cleared = known_changed known pool pool' k (λ _. no_sides) flag c.others c.none

  pub sound_forgotten : IsSides (set known k false) pool'
  sound_forgotten = record {
    room = omega (arith, sides.room, c.many, length-set known k false);
    once = λ i. c.once i (sides.once i);
    empty = λ q no. elim (cases_eq q k) [
      | inl here ↦ ap (sides_of pool') here ∙ c.none
      | inr apart ↦ c.others q apart ∙ sides.empty q (sym (get_or-set_other known k q false false apart) ∙ no)
    ];
  }

  pub is_forgotten : k < length known → known_by (set known k false) pool' ≡ map.remove (known_by known pool) k
  is_forgotten inside = same_known _ _ (λ q. elim (cases_eq q k) [
    | inl here ↦ subst (λ j. map.get (known_by (set known k false) pool') j ≡ map.get
        (map.remove (known_by known pool) k) j) (sym here)
        (shown_false (set known k false) pool' k (get_or-set_same known k false false inside)
        ∙ sym (get-remove_same (known_by known pool) k))
    | inr apart ↦
        shown (set known k false) pool' q
        ∙ ap (λ b. cond b (Some (sides_of pool' q)) None) (get_or-set_other known k q false false apart)
        ∙ ap (λ (s : Sides). cond (get_or known q false) (Some s) None) (c.others q apart)
        ∙ sym (shown known pool q)
        ∙ sym (get-remove_other (known_by known pool) k q apart)
  ])

-- ---- an id leaves one list of a key

module _ (known : List Bool) (pool pool' : List Held) (id k : ℕ) (sides : IsSides known pool)
    (flag : get_or known k false ≡ true) where
  module _ (only : IsChanged pool pool' (2 * k)) (without : IsWithout id (ids_at pool (2 * k)) (ids_at pool' (2 * k)))
      (stars : IsWithout id (stars_at pool (2 * k)) (stars_at pool' (2 * k))) where
    pub sound_from_left : IsSides known pool'
    sound_from_left = sound_changed known pool pool' (2 * k) k sides flag only (inl refl) without.once

    pub taken_from_left : IsTakenFromLeft (known_by known pool) (known_by known pool') id k
    taken_from_left = record {
      known = λ q. some_shown known pool' q ∙ sym (some_shown known pool q);
      left = λ q. both (λ (s t : Sides). IsLeft (q == k) id s.left t.left) q (elim (eqb_tells q k) [
        | inl same ↦ rw same.0 (subst (λ n. IsWithout id (ids_at pool (2 * n)) (ids_at pool' (2 * n))) (sym same.1)
            without)
        | inr other ↦ rw other.0 (ids_other pool pool' (2 * k) (2 * q) only (λ e. other.1 (omega arith)))
      ]);
      left_star = λ q. both (λ (s t : Sides). IsLeft (q == k) id s.left_star t.left_star) q (elim (eqb_tells q k) [
        | inl same ↦ rw same.0 (subst (λ n. IsWithout id (stars_at pool (2 * n)) (stars_at pool' (2 * n))) (sym same.1)
            stars)
        | inr other ↦ rw other.0 (stars_other pool pool' (2 * k) (2 * q) only (λ e. other.1 (omega arith)))
      ]);
      right = λ q. both (λ (s t : Sides). t.right ≡ s.right) q
          (ids_other pool pool' (2 * k) (2 * q + 1) only (λ e. omega arith));
      right_star =
          λ q. both (λ (s t : Sides). t.right_star ≡ s.right_star) q
          (stars_other pool pool' (2 * k) (2 * q + 1) only (λ e. omega arith));
    }
      where
        both : (R : Sides → Sides → Type 0) (q : ℕ) → R (sides_of pool q) (sides_of pool' q)
            → R (sides_at (known_by known pool) q) (sides_at (known_by known pool') q)
        both R q holds =
            subst (λ s. R s (sides_at (known_by known pool') q)) (sym (sides_is known pool q sides))
            (subst (λ s. R (sides_of pool q) s) (sym (sides_is known pool' q sound_from_left)) holds)

  module _ (only : IsChanged pool pool' (2 * k + 1))
      (without : IsWithout id (ids_at pool (2 * k + 1)) (ids_at pool' (2 * k + 1)))
      (stars : IsWithout id (stars_at pool (2 * k + 1)) (stars_at pool' (2 * k + 1))) where
    pub sound_from_right : IsSides known pool'
    sound_from_right = sound_changed known pool pool' (2 * k + 1) k sides flag only (inr refl) without.once

    pub taken_from_right : IsTakenFromRight (known_by known pool) (known_by known pool') id k
    taken_from_right = record {
      known = λ q. some_shown known pool' q ∙ sym (some_shown known pool q);
      left = λ q. both (λ (s t : Sides). t.left ≡ s.left) q
          (ids_other pool pool' (2 * k + 1) (2 * q) only (λ e. omega arith));
      left_star =
          λ q. both (λ (s t : Sides). t.left_star ≡ s.left_star) q
          (stars_other pool pool' (2 * k + 1) (2 * q) only (λ e. omega arith));
      right = λ q. both (λ (s t : Sides). IsLeft (q == k) id s.right t.right) q (elim (eqb_tells q k) [
        | inl same ↦ rw same.0 (subst (λ n. IsWithout id (ids_at pool (2 * n + 1)) (ids_at pool' (2 * n + 1)))
            (sym same.1) without)
        | inr other ↦ rw other.0 (ids_other pool pool' (2 * k + 1) (2 * q + 1) only (λ e. other.1 (omega arith)))
      ]);
      right_star = λ q. both (λ (s t : Sides). IsLeft (q == k) id s.right_star t.right_star) q (elim (eqb_tells q k) [
        | inl same ↦ rw same.0 (subst (λ n. IsWithout id (stars_at pool (2 * n + 1)) (stars_at pool' (2 * n + 1)))
            (sym same.1) stars)
        | inr other ↦ rw other.0 (stars_other pool pool' (2 * k + 1) (2 * q + 1) only (λ e. other.1 (omega arith)))
      ]);
    }
      where
        both : (R : Sides → Sides → Type 0) (q : ℕ) → R (sides_of pool q) (sides_of pool' q)
            → R (sides_at (known_by known pool) q) (sides_at (known_by known pool') q)
        both R q holds =
            subst (λ s. R s (sides_at (known_by known pool') q)) (sym (sides_is known pool q sides))
            (subst (λ s. R (sides_of pool q) s) (sym (sides_is known pool' q sound_from_right)) holds)
