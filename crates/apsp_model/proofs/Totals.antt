-- Sums over lists of which one place changes: for the proofs of task_pool and of version_pool.
use Rattle.std.proofs.Common.{◌≡◌, ℕ, zero, suc, ◌+◌, ◌≤◌, List, [], ◌∷◌, ◌++◌, set, sym, refl, ap, arith}
use mathlib.Core.Option.{some, some-injective, some-ne-none}
use lib.ListN.{get_elem?}
use Rattle.apsp_model.specs.Totals.{total}

module _ {A : Type 0} (f : A → ℕ) where
  pub total-set : (l : List A) (i : ℕ) (v w : A) → get_elem? l i ≡ some v → total f (set l i w) + f v ≡ total f l + f w
  total-set [] i v w e = absurd (some-ne-none v (sym e))
  total-set (x ∷ xs) zero v w e = let is : f x ≡ f v = ap f (some-injective x v e) in omega arith
  total-set (x ∷ xs) (suc i) v w e = let r = total-set xs i v w e in omega arith

  pub total-append : (xs ys : List A) → total f (xs ++ ys) ≡ total f xs + total f ys
  total-append [] ys = omega arith
  total-append (x ∷ xs) ys = let r = total-append xs ys in omega arith

  pub total-at : (l : List A) (i : ℕ) (v : A) → get_elem? l i ≡ some v → f v ≤ total f l
  total-at [] i v e = absurd (some-ne-none v (sym e))
  total-at (x ∷ xs) zero v e = let is : f x ≡ f v = ap f (some-injective x v e) in omega arith
  total-at (x ∷ xs) (suc i) v e = let r = total-at xs i v e in omega arith

  total-none : (g : A → ℕ) (l : List A) → ((i : ℕ) (a : A) → get_elem? l i ≡ some a → f a ≡ 0 → g a ≡ 0) → total f l ≡ 0
      → total g l ≡ 0
  total-none g [] zeros e = refl
  total-none g (y ∷ ys) zeros e =
      let a = zeros 0 y refl (omega arith) in let b = total-none g ys (λ i a. zeros (suc i) a) (omega arith) in
      omega arith

  -- where the place i has all of f, and g is 0 at each place where f is, the place has all of g
  pub total-only : (g : A → ℕ) (l : List A) (i : ℕ) (v : A)
      → ((j : ℕ) (a : A) → get_elem? l j ≡ some a → f a ≡ 0 → g a ≡ 0) → get_elem? l i ≡ some v → total f l ≡ f v
      → total g l ≡ g v
  total-only g [] i v zeros e all = absurd (some-ne-none v (sym e))
  total-only g (x ∷ xs) zero v zeros e all =
      let is : f x ≡ f v = ap f (some-injective x v e) in let same : g x ≡ g v = ap g (some-injective x v e) in
      let none_left = total-none g xs (λ i a. zeros (suc i) a) (omega arith) in omega arith
  total-only g (x ∷ xs) (suc i) v zeros e all =
      let at = total-at xs i v e in let a = zeros 0 x refl (omega arith) in
      let r = total-only g xs i v (λ j a. zeros (suc j) a) e (omega arith) in omega arith

  -- two places
  pub total-two : (l : List A) (i j : ℕ) (v w : A) → get_elem? l i ≡ some v → get_elem? l j ≡ some w → ¬ (j ≡ i)
      → f v + f w ≤ total f l
  total-two [] i j v w e g apart = absurd (some-ne-none v (sym e))
  total-two (x ∷ xs) zero zero v w e g apart = absurd (apart refl)
  total-two (x ∷ xs) zero (suc j) v w e g apart =
      let is : f x ≡ f v = ap f (some-injective x v e) in let at = total-at xs j w g in omega arith
  total-two (x ∷ xs) (suc i) zero v w e g apart =
      let is : f x ≡ f w = ap f (some-injective x w g) in let at = total-at xs i v e in omega arith
  total-two (x ∷ xs) (suc i) (suc j) v w e g apart =
      let r = total-two xs i j v w e g (λ same. apart (ap suc same)) in omega arith
