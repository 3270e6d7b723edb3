-- What a list of picks, one for each place of a range, comes to.
use Rattle.std.specs.Prelude.{◌≡◌, zero, suc, ℕ, ◌+◌, ◌<◌, ◌≤◌, ◌↔◌, List, [], ◌∷◌, Contains, Option, Some, None, filter_map}
use Rattle.std.specs.List.{All, AllZip, AllPairs, range_with_len}
use Rattle.std.proofs.Common.{sym, ◌∙◌, subst, inl, inr, arith}
use Rattle.std.proofs.lemmas.Bool.{cases_eq}
use Rattle.std.proofs.lemmas.List.Elements.{All-contains_itself, All-weaker}
use Rattle.std.proofs.lemmas.List.Kept.{AllPairs-cons}
use Rattle.apsp_model.proofs.Members.{in_cons, in_nil, head_in, tail_in}
use Rattle.path_reports.specs.Spans.{IsPick}

module _ {A : Type 0} (key : A → ℕ) (P : A → Type 0) (one : (a b : A) → P a → P b → key a ≡ key b → a ≡ b) where
  abbrev pub picked : List (Option A) → List A
  picked os = filter_map (λ o. o) os

  -- the items with a key from k up to k + m
  pub record ArePicked (k m : ℕ) (xs : List A) : Type 0 where
    pub rising : AllPairs (λ a b. key a < key b) xs
    pub exact : (a : A) → Contains xs a ↔ ((k ≤ key a) × (key a < k + m) × P a)

  no_picks : (k : ℕ) → ArePicked k 0 []
  no_picks k = record {
    rising = λ i j d less in_list. absurd (omega (arith, in_list));
    exact = λ a. (λ c. absurd (in_nil a c), λ h. absurd (omega (arith, h.0, h.1)));
  }

  skipped : (k m : ℕ) (xs : List A) → IsPick key P k None → ArePicked (k + 1) m xs → ArePicked k (suc m) xs
  skipped k m xs none h = record {
    rising = h.rising;
    exact = λ a. (
      λ c. let r = (h.exact a).0 c in (omega (arith, r.0), omega (arith, r.1), r.2),
      λ r. elim (cases_eq (key a) k) [
        | inl here ↦ absurd (none a here r.2)
        | inr other ↦ (h.exact a).1 (omega (arith, r.0, other), omega (arith, r.1), r.2)
      ],
    );
  }

  taken : (k m : ℕ) (x : A) (xs : List A) → IsPick key P k (Some x) → ArePicked (k + 1) m xs
      → ArePicked k (suc m) (x ∷ xs)
  taken k m x xs pick h = record {
    rising = AllPairs-cons (λ a b. key a < key b) x xs
        (each_above xs (λ a c. let r = (h.exact a).0 c in omega (arith, r.0, pick.0))) h.rising;
    exact = λ a. (
      λ c. elim (in_cons a x xs c) [
        | inl here ↦ subst (λ z. (k ≤ key z) × (key z < k + suc m) × P z) here
            (omega (arith, pick.0), omega (arith, pick.0), pick.1)
        | inr more ↦ let r = (h.exact a).0 more in (omega (arith, r.0), omega (arith, r.1), r.2)
      ],
      λ r. elim (cases_eq (key a) k) [
        | inl here ↦ head_in a x xs (one x a pick.1 r.2 (pick.0 ∙ sym here))
        | inr other ↦ tail_in a x xs ((h.exact a).1 (omega (arith, r.0, other), omega (arith, r.1), r.2))
      ],
    );
  }
    where
      each_above : (ys : List A) → ((a : A) → Contains ys a → key x < key a) → All (λ a. key x < key a) ys
      each_above ys above = All-weaker (Contains ys) (λ a. key x < key a) above ys (All-contains_itself ys)

  pub picks : (k m : ℕ) (os : List (Option A)) → AllZip (IsPick key P) (range_with_len k m) os
      → ArePicked k m (picked os)
  picks k zero [] h = no_picks k
  picks k zero (o ∷ os) h = absurd h
  picks k (suc m) [] h = absurd h
  picks k (suc m) (None ∷ os) h = skipped k m (picked os) h.0 (picks (k + 1) m os h.1)
  picks k (suc m) (Some x ∷ os) h = taken k m x (picked os) h.0 (picks (k + 1) m os h.1)
