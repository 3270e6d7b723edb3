-- Lists that have each entry once, in another order, with one more or one less.
use Rattle.std.specs.Prelude.{◌≡◌, ◌≢◌, ℕ, zero, suc, ◌<◌, ◌⊎◌, List, [], ◌∷◌, ◌++◌, length, Contains, refl}
use Rattle.std.specs.List.{swap}
use Rattle.std.specs.List.Sorted.{IsPermutation}
use Rattle.std.proofs.Common.{sym, ◌∙◌, ap, subst, arith, inl, inr, get_or}
use Rattle.std.proofs.lemmas.Bool.{cases_eq}
use Rattle.std.proofs.lemmas.List.{get_or_default}
use Rattle.std.proofs.lemmas.List.Edits.{Swapped, swapped_from_swap, length-swap}
use Rattle.std.proofs.lemmas.List.Elements.{Contains-push_cases, Contains-append_left, Contains-append_right, Contains-get_or}
use Rattle.std.proofs.lemmas.List.Sorted.{IsPermutation-keeps, IsPermutation-sym, IsPermutation-to_front, Contains-permutation}
use Rattle.apsp_model.specs.Walk.{IsOnceEach}
use Rattle.apsp_model.proofs.Members.{in_cons as contains_cons}
use Rattle.pair_heaps.specs.Heaps.{IsWith, IsAllBut}

-- entries at two places are two entries
abbrev pub AreApart : List ℕ → Type 0
AreApart xs = (i j : ℕ) → i < length xs → j < length xs → get_or xs i 0 ≡ get_or xs j 0 → i ≡ j

pub once_apart : (xs : List ℕ) → IsOnceEach xs → AreApart xs
once_apart [] once i j i_in j_in e = absurd (omega arith)
once_apart (x ∷ xs) once zero zero i_in j_in e = refl
once_apart (x ∷ xs) once zero (suc j) i_in j_in e =
    absurd (once.0 (subst (λ y. Contains xs y) (sym e) (Contains-get_or xs j 0 (omega arith))))
once_apart (x ∷ xs) once (suc i) zero i_in j_in e =
    absurd (once.0 (subst (λ y. Contains xs y) e (Contains-get_or xs i 0 (omega arith))))
once_apart (x ∷ xs) once (suc i) (suc j) i_in j_in e = ap suc (once_apart xs once.1 i j (omega arith) (omega arith) e)

pub apart_once : (xs : List ℕ) → AreApart xs → IsOnceEach xs
apart_once [] apart = tt
apart_once (x ∷ xs) apart = (
  λ c.
      let inside : c.0 < length xs = c.1 in
      let same : get_or (x ∷ xs) 0 0 ≡ get_or (x ∷ xs) (suc c.0) 0 = sym (get_or_default xs c.0 0 x inside ∙ c.2) in
      let place : 0 ≡ suc c.0 = apart 0 (suc c.0) (omega arith) (omega arith) same in
      omega arith,
  apart_once xs (λ i j i_in j_in e. let same : suc i ≡ suc j = apart (suc i) (suc j) (omega arith) (omega arith) e in
      omega arith),
)

apart_swap : (xs : List ℕ) (a b : ℕ) → a < length xs → b < length xs → AreApart xs → AreApart (swap xs a b)
apart_swap xs a b a_in b_in apart i j i_in j_in e =
    let i_was : i < length xs = omega (arith, length-swap xs a b) in
    let j_was : j < length xs = omega (arith, length-swap xs a b) in
    go (from i i_was) (from j j_was)
  where
    s : Swapped (λ n. get_or xs n 0) (λ n. get_or (swap xs a b) n 0) a b
    s = swapped_from_swap xs (swap xs a b) a b 0 a_in b_in refl

    -- the place that the entry came from
    Source : ℕ → Type 0
    Source n =
        (m : ℕ) × (m < length xs) × (get_or (swap xs a b) n 0 ≡ get_or xs m 0)
        × (((n ≡ a) × (m ≡ b)) ⊎ (((n ≡ b) × (m ≡ a)) ⊎ ((n ≢ a) × (n ≢ b) × (m ≡ n))))

    from : (n : ℕ) → n < length xs → Source n
    from n inside = elim (cases_eq n a) [
      | inl one ↦ (b, b_in, ap (λ m. get_or (swap xs a b) m 0) one ∙ s.0, inl (one, refl))
      | inr apart_a ↦ elim (cases_eq n b) [
        | inl other ↦ (a, a_in, ap (λ m. get_or (swap xs a b) m 0) other ∙ s.1, inr (inl (other, refl)))
        | inr apart_b ↦ (n, inside, s.2 n apart_a apart_b, inr (inr (apart_a, apart_b, refl)))
      ]
    ]

    go : Source i → Source j → i ≡ j
    go p q = let same : p.0 ≡ q.0 = apart p.0 q.0 p.1 q.1 (sym p.2 ∙ e ∙ q.2) in cases p.0 q.0 same p.3 q.3
      where
        cases : (m n : ℕ) → m ≡ n → ((i ≡ a) × (m ≡ b)) ⊎ (((i ≡ b) × (m ≡ a)) ⊎ ((i ≢ a) × (i ≢ b) × (m ≡ i)))
            → ((j ≡ a) × (n ≡ b)) ⊎ (((j ≡ b) × (n ≡ a)) ⊎ ((j ≢ a) × (j ≢ b) × (n ≡ j))) → i ≡ j
        cases m n e (inl x) (inl y) = x.0 ∙ sym y.0
        cases m n e (inl x) (inr (inl y)) = x.0 ∙ sym y.1 ∙ sym e ∙ x.1 ∙ sym y.0
        cases m n e (inl x) (inr (inr y)) = absurd (y.1 (sym y.2 ∙ sym e ∙ x.1))
        cases m n e (inr (inl x)) (inl y) = x.0 ∙ sym y.1 ∙ sym e ∙ x.1 ∙ sym y.0
        cases m n e (inr (inl x)) (inr (inl y)) = x.0 ∙ sym y.0
        cases m n e (inr (inl x)) (inr (inr y)) = absurd (y.0 (sym y.2 ∙ sym e ∙ x.1))
        cases m n e (inr (inr x)) (inl y) = absurd (x.1 (sym x.2 ∙ e ∙ y.1))
        cases m n e (inr (inr x)) (inr (inl y)) = absurd (x.0 (sym x.2 ∙ e ∙ y.1))
        cases m n e (inr (inr x)) (inr (inr y)) = sym x.2 ∙ e ∙ y.2

pub once_moved : (xs ys : List ℕ) → IsPermutation xs ys → IsOnceEach xs → IsOnceEach ys
once_moved xs ys moved once =
    IsPermutation-keeps xs IsOnceEach once
    (λ l i j i_in j_in h. apart_once (swap l i j) (apart_swap l i j i_in j_in (once_apart l h))) ys moved

-- ---- with one more, and with one less

pub with_moved : (id : ℕ) (old new : List ℕ) → IsPermutation (old ++ id ∷ []) new → IsOnceEach old
    → (Contains old id → ⊥) → IsWith id old new
with_moved id old new moved once fresh = record {
  ids = λ q. (
    λ c. elim (Contains-push_cases old id q
        (Contains-permutation new (old ++ id ∷ []) q (IsPermutation-sym (old ++ id ∷ []) new moved) c)) [
          | inl before ↦ inl before
          | inr same ↦ inr (sym same)
        ],
    λ h. Contains-permutation (old ++ id ∷ []) new q moved (elim h [
      | inl before ↦ Contains-append_left old (id ∷ []) q before
      | inr same ↦ Contains-append_right old (id ∷ []) q (0, omega arith, sym same)
    ]),
  );
  once = once_moved (old ++ id ∷ []) new moved
      (once_moved (id ∷ old) (old ++ id ∷ [])
      (IsPermutation-sym (old ++ id ∷ []) (id ∷ old) (IsPermutation-to_front old id)) (fresh, once));
}

pub without_moved : (id : ℕ) (old new : List ℕ) → IsPermutation old (id ∷ new) → IsOnceEach old → IsAllBut id old new
without_moved id old new moved once =
    let split : IsOnceEach (id ∷ new) = once_moved old (id ∷ new) moved once in
    record {
      ids = λ q. (
        λ c. (
          Contains-permutation (id ∷ new) old q (IsPermutation-sym old (id ∷ new) moved)
              (Contains-append_right (id ∷ []) new q c),
          λ same. split.0 (subst (λ y. Contains new y) same c),
        ),
        λ h. elim (contains_cons q id new (Contains-permutation old (id ∷ new) q moved h.0)) [
          | inl same ↦ absurd (h.1 (sym same))
          | inr more ↦ more
        ],
      );
      once = split.1;
    }
