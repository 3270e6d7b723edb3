-- A number and its one word: what is spelled and read again, for `Spellings`.
use Rattle.std.specs.Prelude.{◌≡◌, ℕ, ◌^◌, ◌<◌, ◌≤◌, ◌&&◌, ◌||◌, ◌==◌, not, Some, None, nat_le, Bool, true, false, cond, List, [], ◌∷◌, length, refl}
use Rattle.std.specs.Fmt.{decimal}
use Rattle.std.proofs.lemmas.Fmt.{decimal_digit, length-decimal-le, decimal_nonempty, first_decimal, decimal-digits_value, digits_decimal, digits_value-decimal}
use Rattle.std.proofs.lemmas.Str.Parse.{IsNumeralModel, numerals_by_value, tells_digits}
use Rattle.std.proofs.lemmas.Bool.{cases_eq}
use Rattle.std.specs.Str.Parse.{digits_value, AllDigits}
use Rattle.std.proofs.Common.{sym, ◌∙◌, ap, arith, rules, inl, inr, get_or}
use Rattle.std.proofs.Math.Nat.{pow-le-pow_right}
use Rattle.std.proofs.lemmas.Bool.Decides.{nat_tests}
use Rattle.std.proofs.lemmas.Int.Digits.{digits_value-lt}
use Rattle.numerals.specs.Numbers.{is_number, number_of}
use Rattle.numerals.proofs.Digits.{IsTested, tested, all_tests, number_is}
use Rattle.certificate.specs.declared.TheConstants.{MOST_DIGITS}

own : IsNumeralModel (AllDigits 10) (digits_value 10)
own = numerals_by_value (AllDigits 10) tells_digits

some_same : (x y : ℕ) → Some x ≡ Some y → x ≡ y
some_same x y e = cc

-- what a word that is a number looks like
pub record IsSpelled (w : List ℕ) (k : ℕ) : Type 0 where
  pub word : w ≡ decimal k
  pub small : k < 10 ^ 18

-- a word that is the number k is the one spelling of k
pub spelled : (w : List ℕ) (k : ℕ) → number_of MOST_DIGITS w ≡ Some k → IsSpelled w k
unfolding number_of
spelled [] k e = cc
spelled (b ∷ bs) k e = at (is_number MOST_DIGITS (b ∷ bs)) refl e
  where
    yes : is_number MOST_DIGITS (b ∷ bs) ≡ true → digits_value 10 (b ∷ bs) ≡ k → IsSpelled (b ∷ bs) k
    yes t same =
        let test : IsTested MOST_DIGITS (b ∷ bs) = tested MOST_DIGITS (b ∷ bs) t in
        let bound : digits_value 10 (b ∷ bs) < 10 ^ length (b ∷ bs) = digits_value-lt 10 (b ∷ bs) test.digits in
        let power : 10 ^ length (b ∷ bs) ≤ 10 ^ 18 = pow-le-pow_right {n = 10} (omega arith) test.few in
        let small : digits_value 10 (b ∷ bs) < 10 ^ 18 = omega (arith, bound, power) in
        let word : decimal (digits_value 10 (b ∷ bs)) ≡ b ∷ bs =
        decimal-digits_value own (b ∷ bs) test.digits (omega arith) test.first (omega (arith, small)) in
        record {
          word = sym word ∙ ap decimal same;
          small = omega (arith, small, same);
        }

    at : (t : Bool) → is_number MOST_DIGITS (b ∷ bs) ≡ t → cond t (Some (digits_value 10 (b ∷ bs))) None ≡ Some k
        → IsSpelled (b ∷ bs) k
    at true t e = yes t (some_same _ _ e)
    at false t e = cc

number_test : (w : List ℕ) → 0 < length w → length w ≤ 18 → (1 < length w → 48 < get_or w 0 0) → AllDigits 10 w
    → is_number MOST_DIGITS w ≡ true
number_test [] some few first d = absurd (omega arith)
number_test (b ∷ bs) some few first d =
    ap (λ t. nat_le (length (b ∷ bs)) MOST_DIGITS && ((length (b ∷ bs) == 1 || not (b == 48)) && t))
    (all_tests (b ∷ bs) d)
    ∙ at (length (b ∷ bs)) (omega (arith, some)) few first
  where
    at : (l : ℕ) → 0 < l → l ≤ 18 → (1 < l → 48 < b) → (nat_le l 18 && ((l == 1 || not (b == 48)) && true)) ≡ true
    at l p q f = grind (arith, nat_tests)

-- the digits of a number are few and begin well
pub record IsWord (k : ℕ) : Type 0 where
  pub digits : AllDigits 10 (decimal k)
  pub some : 0 < length (decimal k)
  pub few : length (decimal k) ≤ 18

-- the spelling of a number below 10^18 has at most 18 digits
pub word_of : (k : ℕ) → k < 10 ^ 18 → IsWord k
word_of k small =
    let wide : k < 2 ^ 64 = omega (arith, small) in
    record {
      digits = (own.to (decimal k) (own.from (decimal k) (digits k wide)));
      some = decimal_nonempty k wide;
      few = length-decimal-le 18 k (omega arith) small wide;
    }
  where
    digits : (k : ℕ) → k < 2 ^ 64 → AllDigits 10 (decimal k)
    digits k wide = search (rules, digits_decimal own)

-- .. and is read as that number
pub read_again : (k : ℕ) → k < 10 ^ 18 → number_of MOST_DIGITS (decimal k) ≡ Some k
read_again k small =
    let wide : k < 2 ^ 64 = omega (arith, small) in
    let word = word_of k small in
    let test : is_number MOST_DIGITS (decimal k) ≡ true =
    number_test (decimal k) word.some word.few (first k wide) word.digits in
    sym (number_is MOST_DIGITS (decimal k) k test (sym (digits_value-decimal own k wide)))
  where
    first : (k : ℕ) → k < 2 ^ 64 → 1 < length (decimal k) → 48 < get_or (decimal k) 0 0
    first k wide long = elim (cases_eq k 0) [
      | inl zero_here ↦ absurd (omega (arith, long, ap length (ap decimal zero_here ∙ decimal_digit 0 (omega arith))))
      | inr other ↦ first_decimal k (omega (arith, other)) wide
    ]
