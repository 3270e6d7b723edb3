-- Finite maps whose keys are numbers.
use Rattle.std.specs.Prelude.{◌≡◌, ◌≢◌, ℕ, true, false, cond, Some, None}
use Rattle.std.specs.Ordering.{nat_cmp, eq_by_cmp}
use Rattle.std.specs.FinMap as map
use Rattle.std.proofs.Common.{sym, ◌∙◌, ap, arith, inl, inr}
use Rattle.std.proofs.lemmas.Cmp.{nat_cmp_total}
use Rattle.std.proofs.lemmas.Bool.{cases_eq}
use Rattle.std.proofs.lemmas.Bool.Decides.{nat_tests}

pub tied_key : (k : ℕ) → eq_by_cmp nat_cmp k k ≡ true
tied_key k = grind (arith, nat_tests)

pub apart_key : (k q : ℕ) → q ≢ k → eq_by_cmp nat_cmp q k ≡ false
apart_key k q apart = grind (arith, nat_tests)

module _ {X : Type 0} where
  pub get_put : (m : map.FinMap nat_cmp X) (k : ℕ) (x : X) → map.get (map.insert m k x) k ≡ Some x
  get_put m k x = map.get-insert nat_cmp_total m k x k ∙ ap (λ b. cond b (Some x) (map.get m k)) (tied_key k)

  pub get_put_other : (m : map.FinMap nat_cmp X) (k : ℕ) (x : X) (q : ℕ) → q ≢ k
      → map.get (map.insert m k x) q ≡ map.get m q
  get_put_other m k x q apart =
      map.get-insert nat_cmp_total m k x q ∙ ap (λ b. cond b (Some x) (map.get m q)) (apart_key k q apart)

  pub get_gone : (m : map.FinMap nat_cmp X) (k : ℕ) → map.get (map.remove m k) k ≡ None
  get_gone m k = map.get-remove nat_cmp_total m k k ∙ ap (λ b. cond b None (map.get m k)) (tied_key k)

  pub get_gone_other : (m : map.FinMap nat_cmp X) (k q : ℕ) → q ≢ k → map.get (map.remove m k) q ≡ map.get m q
  get_gone_other m k q apart =
      map.get-remove nat_cmp_total m k q ∙ ap (λ b. cond b None (map.get m q)) (apart_key k q apart)

  -- a map that answers as the old one with one more entry is the old one with that entry
  pub same_put : (m n : map.FinMap nat_cmp X) (k : ℕ) (x : X) → map.get n k ≡ Some x
      → ((q : ℕ) → q ≢ k → map.get n q ≡ map.get m q) → n ≡ map.insert m k x
  same_put m n k x here others =
      map.same_map nat_cmp_total map.nat_cmp-IsAntisymmetric n (map.insert m k x) (λ q. elim (cases_eq q k) [
        | inl same ↦ ap (map.get n) same ∙ here ∙ sym (get_put m k x) ∙ ap (map.get (map.insert m k x)) (sym same)
        | inr apart ↦ others q apart ∙ sym (get_put_other m k x q apart)
      ])

  pub same_gone : (m n : map.FinMap nat_cmp X) (k : ℕ) → map.get n k ≡ None
      → ((q : ℕ) → q ≢ k → map.get n q ≡ map.get m q) → n ≡ map.remove m k
  same_gone m n k here others =
      map.same_map nat_cmp_total map.nat_cmp-IsAntisymmetric n (map.remove m k) (λ q. elim (cases_eq q k) [
        | inl same ↦ ap (map.get n) same ∙ here ∙ sym (get_gone m k) ∙ ap (map.get (map.remove m k)) (sym same)
        | inr apart ↦ others q apart ∙ sym (get_gone_other m k q apart)
      ])
