-- How often a number stands in a list, and the numbers from one on: for the other files and the proofs that count
-- tasks.
use Rattle.std.proofs.Common.{◌≡◌, ℕ, zero, suc, ◌+◌, ◌≤◌, List, [], ◌∷◌, ◌++◌, set, length, sym, refl, ap, arith}
use Rattle.apsp_model.proofs.Totals.{total-append}
use Rattle.task_pool.specs.Lists.{times, is_at, from_on}

pub times-le-length : (x : ℕ) (xs : List ℕ) → times x xs ≤ length xs
times-le-length x [] = omega arith
times-le-length x (y ∷ ys) = let r = times-le-length x ys in grind arith

pub times-snoc : (x : ℕ) (xs : List ℕ) (y : ℕ) → times x (xs ++ y ∷ []) ≡ times x xs + is_at x y
times-snoc x xs y = let r = total-append (is_at x) xs (y ∷ []) in omega arith

pub times-append : (x : ℕ) (xs ys : List ℕ) → times x (xs ++ ys) ≡ times x xs + times x ys
times-append x xs ys = total-append (is_at x) xs ys

pub from_on-snoc : (a n : ℕ) → from_on a n ++ (a + n) ∷ [] ≡ from_on a (n + 1)
from_on-snoc a zero = let e : a + 0 ≡ a = omega arith in rw e refl
from_on-snoc a (suc n) =
    let e : a + suc n ≡ a + 1 + n = omega arith in let s : suc n + 1 ≡ suc (n + 1) = omega arith in
    rw (s, e) (ap (λ (l : List ℕ). a ∷ l) (from_on-snoc (a + 1) n))
