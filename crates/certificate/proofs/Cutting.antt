-- Bytes that are cut at the first of a kind: for `cut`, and for the lines of `Spellings`.
use Rattle.std.specs.Prelude.{◌≡◌, ℕ, zero, suc, ◌+◌, ◌<◌, Bool, true, false, not, ◌==◌, ◌&&◌, cond, if◌then◌else◌, List, [], ◌∷◌, ◌++◌, length, take, drop, slice_index, Option, Some, None, refl}
use Rattle.std.specs.List.{list_all}
use Rattle.std.specs.Str.Parse.{AllDigits}
use Rattle.std.proofs.Common.{◌∙◌, ap, subst, arith}
use Rattle.std.proofs.lemmas.Bool.{eq-eqb, ne_eqb}
use Rattle.std.proofs.lemmas.Bool.Decides.{nat_tests}
use Rattle.certificate.specs.Cuts.{onto_front, cut}
use Rattle.numerals.proofs.Digits.{IsDigit, digit_from_value}

-- no byte of the text is this one
abbrev pub avoids : ℕ → List ℕ → Bool
avoids c s = list_all (λ b. not (b == c)) s

-- ---- a cut and its parts

-- s is front and rest with the byte c between them, and front has no such byte
pub record IsCutAt (c : ℕ) (s front rest : List ℕ) : Type 0 where
  pub whole : s ≡ front ++ c ∷ rest
  pub clean : avoids c front ≡ true

same_pair : (p q : List ℕ × List ℕ) → Some p ≡ Some q → p ≡ q
same_pair p q e = cc

same_parts : (a r x y : List ℕ) → ◌≡◌ {A = Option (List ℕ × List ℕ)} (Some (a, r)) (Some (x, y)) → (a ≡ x) × (r ≡ y)
same_parts a r x y e =
    let pairs : ◌≡◌ {A = List ℕ × List ℕ} (a, r) (x, y) = same_pair (a, r) (x, y) e in
    (ap (λ (p : List ℕ × List ℕ). p.0) pairs, ap (λ (p : List ℕ × List ℕ). p.1) pairs)

-- the parts of a cut
pub cut_parts : (c : ℕ) (s front rest : List ℕ) → cut c s ≡ Some (front, rest) → IsCutAt c s front rest
unfolding cut
cut_parts c [] front rest e = cc
cut_parts c (b ∷ bs) front rest e = at (b == c) refl (λ f r h. cut_parts c bs f r h) e
  where
    here : (b == c) ≡ true → IsCutAt c (b ∷ bs) [] bs
    here t = let same : b ≡ c = grind (arith, nat_tests) in record { whole = ap (λ x. x ∷ bs) same; clean = refl }

    moved : (o : Option (List ℕ × List ℕ)) → cut c bs ≡ o → (b == c) ≡ false
        → ((f r : List ℕ) → cut c bs ≡ Some (f, r) → IsCutAt c bs f r) → onto_front b o ≡ Some (front, rest)
        → IsCutAt c (b ∷ bs) front rest
    moved None is t again e = cc
    moved (Some p) is t again e =
        let parts = same_parts (b ∷ p.0) p.1 front rest e in
        let later : IsCutAt c bs p.0 p.1 = again p.0 p.1 is in
        let made : IsCutAt c (b ∷ bs) (b ∷ p.0) p.1 = record {
          whole = ap (λ x. b ∷ x) later.whole;
          clean = ap (λ x. not x && avoids c p.0) t ∙ later.clean;
        } in
        subst (λ f. IsCutAt c (b ∷ bs) f rest) parts.0 (subst (λ r. IsCutAt c (b ∷ bs) (b ∷ p.0) r) parts.1 made)

    at : (t : Bool) → (b == c) ≡ t → ((f r : List ℕ) → cut c bs ≡ Some (f, r) → IsCutAt c bs f r)
        → (if t then Some ([], bs) else onto_front b (cut c bs)) ≡ Some (front, rest) → IsCutAt c (b ∷ bs) front rest
    at true t again e =
        let parts = same_parts [] bs front rest e in
        subst (λ f. IsCutAt c (b ∷ bs) f rest) parts.0 (subst (λ r. IsCutAt c (b ∷ bs) [] r) parts.1 (here t))
    at false t again e = moved (cut c bs) refl t again e

-- a text made of such parts is cut into them
pub cut_again : (c : ℕ) (front rest : List ℕ) → avoids c front ≡ true → cut c (front ++ c ∷ rest) ≡ Some (front, rest)
unfolding cut
cut_again c [] rest h = ap (λ t. if t then Some ([], rest) else onto_front c (cut c rest)) (eq-eqb c c refl)
cut_again c (b ∷ bs) rest h = at (b == c) (cut_again c bs rest) h
  where
    at : (t : Bool) → (avoids c bs ≡ true → cut c (bs ++ c ∷ rest) ≡ Some (bs, rest)) → (not t && avoids c bs) ≡ true
        → cond t (Some ([], bs ++ c ∷ rest)) (onto_front b (cut c (bs ++ c ∷ rest))) ≡ Some (b ∷ bs, rest)
    at true again e = cc
    at false again e = ap (onto_front b) (again e)

-- ---- what avoids a byte

-- two texts without a byte, one behind the other, are without it
pub avoids-append : (c : ℕ) (a b : List ℕ) → avoids c a ≡ true → avoids c b ≡ true → avoids c (a ++ b) ≡ true
avoids-append c [] b h k = k
avoids-append c (x ∷ a) b h k = at (not (x == c)) (λ e. avoids-append c a b e k) h
  where
    at : (t : Bool) → (avoids c a ≡ true → avoids c (a ++ b) ≡ true) → (t && avoids c a) ≡ true
        → (t && avoids c (a ++ b)) ≡ true
    at true again e = again e
    at false again e = cc

-- the byte is no digit
abbrev pub IsNoDigit : ℕ → Type 0
IsNoDigit c = (b : ℕ) → IsDigit b → b ≡ c → ⊥

pub newline_apart : IsNoDigit 10
newline_apart b d e = omega (arith, d.low, e)

pub space_apart : IsNoDigit 32
space_apart b d e = omega (arith, d.low, e)

pub colon_apart : IsNoDigit 58
colon_apart b d e = omega (arith, d.high, e)

-- digits have no other byte
pub digits_avoid : (c : ℕ) (w : List ℕ) → IsNoDigit c → AllDigits 10 w → avoids c w ≡ true
digits_avoid c [] apart d = refl
digits_avoid c (b ∷ bs) apart d =
    ap (λ t. not t && avoids c bs) (ne_eqb b c (apart b (digit_from_value b d.0))) ∙ digits_avoid c bs apart d.1

-- ---- by places

one_more : (k : ℕ) → suc (k + 1) ≡ suc k + 1
one_more k = omega arith

next_is : (k : ℕ) → suc k ≡ k + 1
next_is k = omega arith

-- a search that found the byte at k: the text is cut there
pub cut_at : (c : ℕ) (s : List ℕ) (k : ℕ) → k < length s → ((j : ℕ) → j < k → (slice_index s j == c) ≡ true → ⊥)
    → (slice_index s k == c) ≡ true → cut c s ≡ Some (take k s, drop (k + 1) s)
unfolding cut
cut_at c [] k l before here = absurd (omega arith)
cut_at c (b ∷ bs) zero l before here =
    ap (λ t. if t then Some ([], bs) else onto_front b (cut c bs)) here
    ∙ ap (λ n. Some ([], drop n (b ∷ bs))) (next_is zero)
cut_at c (b ∷ bs) (suc k) l before here =
    at (b == c) refl (cut_at c bs k (omega (arith, l)) (λ j p. before (suc j) (omega (arith, p))) here)
  where
    at : (t : Bool) → (b == c) ≡ t → cut c bs ≡ Some (take k bs, drop (k + 1) bs)
        → (if t then Some ([], bs) else onto_front b (cut c bs)) ≡ Some
        (take (suc k) (b ∷ bs), drop (suc k + 1) (b ∷ bs))
    at true t again = absurd (before zero (omega arith) t)
    at false t again = ap (onto_front b) again ∙ ap (λ n. Some (b ∷ take k bs, drop n (b ∷ bs))) (one_more k)

-- a search to the end that found none: the text is not cut
pub cut_nowhere : (c : ℕ) (s : List ℕ) → ((j : ℕ) → j < length s → (slice_index s j == c) ≡ true → ⊥) → cut c s ≡ None
unfolding cut
cut_nowhere c [] nowhere = refl
cut_nowhere c (b ∷ bs) nowhere = at (b == c) refl (cut_nowhere c bs (λ j p. nowhere (suc j) (omega (arith, p))))
  where
    at : (t : Bool) → (b == c) ≡ t → cut c bs ≡ None → (if t then Some ([], bs) else onto_front b (cut c bs)) ≡ None
    at true t again = absurd (nowhere zero (omega arith) t)
    at false t again = ap (onto_front b) again
