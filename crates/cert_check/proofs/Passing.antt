-- Pairs that pass their tests, in the order of the rows.
use Rattle.std.specs.Prelude.{◌≢◌, ℕ, ◌+◌, ◌<◌, ◌≤◌, ◌↔◌, Option, MatchOption}
use Rattle.std.proofs.Common.{sym, subst, inl, inr, arith}
use Rattle.std.proofs.lemmas.Bool.{cases_eq}
use Rattle.apsp_model.specs.Stated.{Stated, Entry, StepHolds, NoSmaller, NoneMissing, PassesAll, IsLawful}
use Rattle.cert_check.specs.declared.Reason.{Reason}
use Rattle.cert_check.specs.declared.Reason.TheVariants.{Step, Smaller, Missing}
use Rattle.cert_check.specs.Tests.{Passes, FailsFirst, IsFirstFailing}
use Rattle.cert_check.specs.Pairs.{RowPasses, RowsPass}

-- a pair that fails a test does not pass
pub fails_not_passes : (s : Stated) (x y : ℕ) (r : Reason) → FailsFirst s x y r → Passes s x y → ⊥
fails_not_passes s x y Step h p =
    let F : Option Entry → Type 0 =
    λ o. MatchOption o (NoneMissing s x y) (λ e. StepHolds s x y e × NoSmaller s x y e) in
    let there : StepHolds s x y h.0 × NoSmaller s x y h.0 = subst F h.1 p in
    h.2 there.0
fails_not_passes s x y Smaller h p =
    let F : Option Entry → Type 0 =
    λ o. MatchOption o (NoneMissing s x y) (λ e. StepHolds s x y e × NoSmaller s x y e) in
    let there : StepHolds s x y h.0 × NoSmaller s x y h.0 = subst F h.1 p in
    h.3 there.1
fails_not_passes s x y Missing h p =
    let F : Option Entry → Type 0 =
    λ o. MatchOption o (NoneMissing s x y) (λ e. StepHolds s x y e × NoSmaller s x y e) in
    let there : NoneMissing s x y = subst F h.0 p in
    h.1 there

pub no_rows : (s : Stated) → RowsPass s 0
no_rows s = record { rows = λ x p. absurd (omega (arith, p)) }

pub more_rows : (s : Stated) (k : ℕ) → RowsPass s k → RowPasses s k s.graph.vertices → RowsPass s (k + 1)
more_rows s k h row = record {
  rows = λ x p. elim (cases_eq x k) [
    | inl same ↦ subst (λ j. RowPasses s j s.graph.vertices) (sym same) row
    | inr other ↦ h.rows x (omega (arith, p, other))
  ];
}

-- a failing pair, where the rows before and its own row up to it pass
pub first_failing : (s : Stated) (x y : ℕ) (r : Reason) → RowsPass s x → x < s.graph.vertices → y < s.graph.vertices
    → x ≢ y → FailsFirst s x y r → RowPasses s x y → IsFirstFailing s x y r
first_failing s x y r h from to apart fails row = record {
  from = from;
  to = to;
  apart = apart;
  fails = fails;
  before = λ a b p q d before. elim before [
    | inl above ↦ h.rows a above b q d
    | inr here ↦ subst (λ j. j ≢ b → Passes s j b) (sym here.0) (row b here.1) d
  ];
}

pub not_lawful : (s : Stated) (x y : ℕ) (r : Reason) → (PassesAll s ↔ IsLawful s) → x < s.graph.vertices
    → y < s.graph.vertices → x ≢ y → FailsFirst s x y r → IsLawful s → ⊥
not_lawful s x y r law from to apart fails lawful = fails_not_passes s x y r fails (law.1 lawful x y from to apart)

pub lawful : (s : Stated) (k : ℕ) → (PassesAll s ↔ IsLawful s) → RowsPass s k → s.graph.vertices ≤ k → IsLawful s
lawful s k law h all = law.0 (λ x y p q d. h.rows x (omega (arith, p, all)) y q d)
