-- The table of the latest times with more vertices: for `wider` and `Timeline::grow`.
use Rattle.std.specs.Prelude.{◌≡◌, ℕ, ◌+◌, ◌<◌, ◌≤◌, List, [], ◌∷◌, ◌++◌, length, replicate, slice_set, slice_index, slice_get, Option, Some, None}
use Rattle.std.proofs.Common.{sym, ◌∙◌, subst, arith, inl, inr, get_or-set_other, get_or-set_same, length-set}
use Rattle.std.proofs.lemmas.Bool.{cases_eq, cases_lt}
use Rattle.std.proofs.lemmas.List.{get_or-replicate, get_or_past, length-replicate}
use Rattle.history_engine.specs.Times.{IsLatestUpdate, AreTimesUpto}
use Rattle.history_engine.proofs.Cleaning.{latest_past, latest_none_at, star_before}

pub times_none : (n : ℕ) (times : List ℕ) → AreTimesUpto n 0 times (replicate n 0)
times_none n times = record {
  size = length-replicate n 0;
  before = λ v l. absurd (omega (arith, l));
  behind = λ v l. elim (cases_lt v n) [
    | inl inside ↦ get_or-replicate n v 0 0 inside
    | inr beyond ↦ get_or_past (replicate n 0) v 0 (omega (arith, length-replicate n (let x : ℕ = 0 in x), beyond))
  ];
}

pub times_more : (n i t : ℕ) (times wide : List ℕ) → i < n → t ≡ slice_index times i → AreTimesUpto n i times wide
    → AreTimesUpto n (i + 1) times (slice_set wide i t)
times_more n i t times wide inside is h = record {
  size = length-set wide i t ∙ h.size;
  before = λ v l. elim (cases_eq v i) [
    | inl same ↦ subst (λ k. slice_index (slice_set wide i t) k ≡ slice_index times k) (sym same)
        (get_or-set_same wide i t 0 (omega (arith, inside, h.size)) ∙ is)
    | inr other ↦ get_or-set_other wide i v t 0 other ∙ h.before v (less v i l other)
  ];
  behind = λ v l. get_or-set_other wide i v t 0 (λ e. omega (arith, e, l)) ∙ h.behind v (omega (arith, l));
}
  where
    less : (v i : ℕ) → v < i + 1 → (v ≡ i → ⊥) → v < i
    less v i l other = elim (cases_lt v i) [ inl below ↦ below | inr more ↦ absurd (other (omega (arith, l, more))) ]

-- behind a grow, of each vertex
pub times_grown : (vs : List (Option ℕ)) (old new : List ℕ)
    → ((v : ℕ) → v < length old → IsLatestUpdate vs v (slice_index old v))
    → ((s v : ℕ) → slice_get vs s ≡ Some (Some v) → v < length old)
    → ((v : ℕ) → v < length old → slice_index new v ≡ slice_index old v)
    → ((v : ℕ) → length old ≤ v → slice_index new v ≡ 0) → (v : ℕ)
    → IsLatestUpdate (vs ++ None ∷ []) v (slice_index new v)
times_grown vs old new latest inside before behind v = elim (cases_lt v (length old)) [
  | inl below ↦ subst (λ (t : ℕ). IsLatestUpdate (vs ++ None ∷ []) v t) (sym (before v below))
      (latest_past vs v (slice_index old v) (latest v below))
  | inr beyond ↦ subst (λ (t : ℕ). IsLatestUpdate (vs ++ None ∷ []) v t) (sym (behind v beyond))
      (latest_none_at (vs ++ None ∷ []) v
      (λ s at. let l : v < length old = inside s v (star_before vs s v at) in omega (arith, l, beyond)))
]
