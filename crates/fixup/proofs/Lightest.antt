-- The least rank that is held, which rises from class to class, as a number. Serves `take_classes`, which ends by it.
use Rattle.std.specs.Prelude.{◌≡◌, ℕ, ◌+◌, ◌-◌, ◌*◌, ◌<◌, ◌≤◌, ◌⊎◌, min, List, [], ◌∷◌, Contains, refl}
use Rattle.std.proofs.Common.{ap, arith, inl, inr}
use Rattle.std.proofs.lemmas.Bool.{cases_lt}
use Rattle.std.proofs.lemmas.Nat.{mul-add-lt}
use Rattle.apsp_model.specs.declared.TheConstants.{MOST_VERTICES, MOST_WEIGHT}
use Rattle.weight_classes.specs.Classes.{Rank, IsLower}
use Rattle.weight_classes.proofs.Held.{in_cons, head_there, tail_there}

number_by : ℕ → Rank → ℕ
number_by n r = r.weight * n + r.hops

rises : (n : ℕ) (r s : Rank) → IsLower r s → r.hops < n → number_by n r < number_by n s
unfolding number_by
rises n r s lower few = elim lower [
  | inl less ↦ omega (arith, mul-add-lt r.weight n r.hops s.weight less few)
  | inr tie ↦ omega (arith, tie.1, ap (λ w. w * n) tie.0)
]

below : (n most : ℕ) (r : Rank) → r.weight ≤ most → r.hops < n → number_by n r + 1 ≤ (most + 1) * n
unfolding number_by
below n most r l few = omega (arith, mul-add-lt r.weight n r.hops (most + 1) (omega (arith, l)) few)

-- by weight, and then by the number of edges
pub number : Rank → ℕ
number r = number_by MOST_VERTICES r

-- more than the number of any path
pub above_all : ℕ
above_all = (MOST_VERTICES * MOST_WEIGHT + 1) * MOST_VERTICES

pub number_rises : (r s : Rank) → IsLower r s → r.hops < MOST_VERTICES → number r + 1 ≤ number s
unfolding number
number_rises r s lower few = omega (arith, rises MOST_VERTICES r s lower few)

pub number_most : (r : Rank) → r.weight ≤ MOST_VERTICES * MOST_WEIGHT → r.hops < MOST_VERTICES
    → number r + 1 ≤ above_all
unfolding number above_all
number_most r l few = below MOST_VERTICES (MOST_VERTICES * MOST_WEIGHT) r l few

abbrev pub lightest : List (Rank × ℕ) → ℕ
lightest [] = above_all
lightest (e ∷ es) = min (number e.0) (lightest es)

pub lightest_upto : (hs : List (Rank × ℕ)) (r : Rank) (id : ℕ) → Contains hs (r, id) → lightest hs ≤ number r
lightest_upto [] r id c = absurd (omega (arith, c.1))
lightest_upto (e ∷ hs) r id c = elim (in_cons e hs (r, id) c) [
  | inl here ↦ omega (arith, ap (λ (p : Rank × ℕ). number p.0) here)
  | inr more ↦ omega (arith, lightest_upto hs r id more)
]

pub lightest_from : (hs : List (Rank × ℕ)) (k : ℕ) → k ≤ above_all
    → ((r : Rank) (id : ℕ) → Contains hs (r, id) → k ≤ number r) → k ≤ lightest hs
lightest_from [] k most least = most
lightest_from (e ∷ hs) k most least =
    let here : k ≤ number e.0 = least e.0 e.1 (head_there e hs) in
    let rest : k ≤ lightest hs = lightest_from hs k most (λ r id c. least r id (tail_there e hs (r, id) c)) in
    omega (arith, here, rest)

-- falls from class to class
pub left_over : List (Rank × ℕ) → ℕ
left_over hs = above_all - lightest hs

pub left_over_is : (hs : List (Rank × ℕ)) → left_over hs ≡ above_all - lightest hs
unfolding left_over
left_over_is hs = refl

-- what is not up to r is above it
pub lower_by : (r s : Rank) (v h w k : ℕ) → ((v < w) ⊎ ((v ≡ w) × (h ≤ k)) → ⊥) → w ≡ r.weight → k ≡ r.hops
    → s.weight ≡ v → s.hops ≡ h → IsLower r s
lower_by r s v h w k not_upto a b c d = elim (cases_lt w v) [
  | inl less ↦ inl (omega (arith, less, a, c))
  | inr upto ↦ elim (cases_lt v w) [
    | inl more ↦ absurd (not_upto (inl more))
    | inr least ↦ elim (cases_lt k h) [
      | inl less ↦ inr (omega (arith, upto, least, a, c), omega (arith, less, b, d))
      | inr upto_h ↦ absurd (not_upto (inr (omega (arith, upto, least), upto_h)))
    ]
  ]
]
