-- Finite sets of numbers.
use Rattle.std.specs.Prelude.{◌≡◌, ◌≢◌, ℕ, true, false, not, ◌||◌, ◌&&◌}
use Rattle.std.specs.Ordering.{nat_cmp}
use Rattle.std.specs.FinSet as set
use Rattle.std.proofs.Common.{sym, ◌∙◌, ap, inl, inr}
use Rattle.std.proofs.lemmas.Cmp.{nat_cmp_total}
use Rattle.std.proofs.lemmas.Bool.{cases_eq}
use Rattle.path_arena.proofs.Keys.{tied_key, apart_key}

pub marked_put : (s : set.FinSet nat_cmp) (k : ℕ) → set.contains (set.insert s k) k ≡ true
marked_put s k = set.contains-insert nat_cmp_total s k k ∙ ap (λ b. b || set.contains s k) (tied_key k)

pub marked_put_other : (s : set.FinSet nat_cmp) (k q : ℕ) → q ≢ k → set.contains (set.insert s k) q ≡ set.contains s q
marked_put_other s k q apart =
    set.contains-insert nat_cmp_total s k q ∙ ap (λ b. b || set.contains s q) (apart_key k q apart)

pub marked_gone : (s : set.FinSet nat_cmp) (k : ℕ) → set.contains (set.remove s k) k ≡ false
marked_gone s k = set.contains-remove nat_cmp_total s k k ∙ ap (λ b. not b && set.contains s k) (tied_key k)

pub marked_gone_other : (s : set.FinSet nat_cmp) (k q : ℕ) → q ≢ k → set.contains (set.remove s k) q ≡ set.contains s q
marked_gone_other s k q apart =
    set.contains-remove nat_cmp_total s k q ∙ ap (λ b. not b && set.contains s q) (apart_key k q apart)

pub same_put : (s t : set.FinSet nat_cmp) (k : ℕ) → set.contains t k ≡ true
    → ((q : ℕ) → q ≢ k → set.contains t q ≡ set.contains s q) → t ≡ set.insert s k
same_put s t k here others =
    set.same_set nat_cmp_total set.nat_cmp-IsAntisymmetric t (set.insert s k) (λ q. elim (cases_eq q k) [
      | inl same ↦ ap (set.contains t) same ∙ here ∙ sym (marked_put s k)
          ∙ ap (set.contains (set.insert s k)) (sym same)
      | inr apart ↦ others q apart ∙ sym (marked_put_other s k q apart)
    ])

pub same_gone : (s t : set.FinSet nat_cmp) (k : ℕ) → set.contains t k ≡ false
    → ((q : ℕ) → q ≢ k → set.contains t q ≡ set.contains s q) → t ≡ set.remove s k
same_gone s t k here others =
    set.same_set nat_cmp_total set.nat_cmp-IsAntisymmetric t (set.remove s k) (λ q. elim (cases_eq q k) [
      | inl same ↦ ap (set.contains t) same ∙ here ∙ sym (marked_gone s k)
          ∙ ap (set.contains (set.remove s k)) (sym same)
      | inr apart ↦ others q apart ∙ sym (marked_gone_other s k q apart)
    ])
