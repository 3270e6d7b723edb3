-- How many pairs of different vertices there are: for the count lines in `Texts`.
use Rattle.std.specs.Prelude.{◌≡◌, ◌≢◌, ℕ, ◌+◌, ◌-◌, ◌*◌, ◌<◌, ◌≤◌, true, ◌==◌, ◌||◌, ◌&&◌, nat_lt, if◌then◌else◌, List, [], ◌∷◌, length, Some, None}
use Rattle.std.proofs.Common.{sym, ◌∙◌, ap, arith, inl, inr}
use Rattle.std.proofs.lemmas.Bool.{cases_lt}
use Rattle.std.proofs.lemmas.Bool.Decides.{nat_tests}
use Rattle.std.proofs.lemmas.Nat.{mul-le}
use Rattle.certificate.specs.Reading.{rises}
use Rattle.certificate.proofs.Maps.{Rising, EachOf}

-- two different vertices below n
pub record ArePairEnds (n : ℕ) (q : ℕ × ℕ) : Type 0 where
  pub from : q.0 < n
  pub to : q.1 < n
  pub apart : q.0 ≢ q.1

-- the place of a pair among the pairs of different vertices
column : ℕ → ℕ → ℕ
column u v = if nat_lt v u then v else v - 1

place : ℕ → ℕ × ℕ → ℕ
place n q = q.0 * (n - 1) + column q.0 q.1

column_within : (n : ℕ) (q : ℕ × ℕ) → ArePairEnds n q → column q.0 q.1 + 1 ≤ n - 1
unfolding column
column_within n q h = at q.0 q.1 h.from h.to h.apart
  where
    at : (u v : ℕ) → u < n → v < n → u ≢ v → (if nat_lt v u then v else v - 1) + 1 ≤ n - 1
    at u v a b c = grind (arith, nat_tests)

column_rises : (u v w : ℕ) → u ≢ v → u ≢ w → v < w → column u v < column u w
unfolding column
column_rises u v w a b h = grind (arith, nat_tests)

place_within : (n : ℕ) (q : ℕ × ℕ) → ArePairEnds n q → place n q + 1 ≤ n * (n - 1)
unfolding place
place_within n q h =
    omega (arith, column_within n q h, mul-le (q.0 + 1) (n - 1) n (n - 1) (omega (arith, h.from)) (omega arith))

place_rises : (n : ℕ) (p q : ℕ × ℕ) → ArePairEnds n p → ArePairEnds n q → rises (Some p) q ≡ true
    → place n p + 1 ≤ place n q
unfolding place
place_rises n p q h k r = elim (cases_lt p.0 q.0) [
  | inl below ↦ omega (
    arith,
    column_within n p h,
    mul-le (p.0 + 1) (n - 1) q.0 (n - 1) (omega (arith, below))
        (omega arith),
  )
  | inr other ↦
      let s = same_row p.0 p.1 q.0 q.1 r other in
      here p.0 p.1 q.0 q.1 s.0 s.1 h.apart k.apart
]
  where
    same_row : (a b c d : ℕ) → (nat_lt a c || (a == c && nat_lt b d)) ≡ true → c ≤ a → (a ≡ c) × (b < d)
    same_row a b c d r o = (grind (arith, nat_tests), grind (arith, nat_tests))

    here : (a b c d : ℕ) → a ≡ c → b < d → a ≢ b → c ≢ d → a * (n - 1) + column a b + 1 ≤ c * (n - 1) + column c d
    here a b c d e l x y =
        let z : a ≢ d = λ f. y (sym e ∙ f) in
        omega (arith, column_rises a b d x z l, ap (λ i. i * (n - 1) + column i d) e)

module _ {V : Type 0} where
  many_after : (n : ℕ) (p : ℕ × ℕ) (es : List ((ℕ × ℕ) × V)) → ArePairEnds n p → EachOf (λ e. ArePairEnds n e.0) es
      → Rising (Some p) es → place n p + 1 + length es ≤ n * (n - 1)
  many_after n p [] h each rising = omega (arith, place_within n p h)
  many_after n p (e ∷ es) h each rising =
      omega (arith, place_rises n p e.0 h each.0 rising.0, many_after n e.0 es each.0 each.1 rising.1)

  -- rising pairs of different vertices are at most so many
  pub few_pairs : (n : ℕ) (es : List ((ℕ × ℕ) × V)) → EachOf (λ e. ArePairEnds n e.0) es → Rising None es
      → length es ≤ n * (n - 1)
  few_pairs n [] each rising = omega arith
  few_pairs n (e ∷ es) each rising = omega (arith, many_after n e.0 es each.0 each.1 rising.1)
