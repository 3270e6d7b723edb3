-- The value of digits, as far as they are read: for `number_of` and its loop `value_of`; what is cited of numbers
-- elsewhere.
use Rattle.std.specs.Prelude.{◌≡◌, ℕ, zero, suc, ◌+◌, ◌-◌, ◌*◌, ◌^◌, ◌<◌, ◌≤◌, ◌&&◌, ◌||◌, ◌==◌, not, Some, None, nat_le, Bool, true, false, cond, List, [], ◌∷◌, length, take, slice_index, refl}
use Rattle.std.specs.Char.{digit_value}
use Rattle.std.specs.List.{list_all}
use Rattle.std.specs.Str.Parse.{digits_value, AllDigits}
use Rattle.std.proofs.Common.{sym, ◌∙◌, ap, arith}
use Rattle.std.proofs.Math.Nat.{pow-le-pow_right}
use Rattle.std.proofs.lemmas.Bool.Decides.{nat_tests}
use Rattle.std.proofs.lemmas.Int.Digits.{digits_value-lt, digits_value_more}
use Rattle.std.proofs.lemmas.List.{length-take}
use Rattle.numerals.specs.declared.TheConstants.{MOST_U64_DIGITS}
use Rattle.numerals.specs.Numbers.{is_digit, is_number, number_of, AreFewDigits}

-- b is the byte of a digit, with this value
pub record IsDigit (b : ℕ) : Type 0 where
  pub low : 48 ≤ b
  pub high : b ≤ 57
  pub value : digit_value b ≡ b - 48

-- a byte whose value as a digit is below 10 is that of a digit
pub digit_from_value : (b : ℕ) → digit_value b < 10 → IsDigit b
digit_from_value b h =
    record { low = grind (arith, nat_tests); high = grind (arith, nat_tests); value = grind (arith, nat_tests) }

value_from_digit : (b : ℕ) → is_digit b ≡ true → digit_value b < 10
value_from_digit b h = grind (arith, nat_tests)

both : (a b : Bool) → (a && b) ≡ true → (a ≡ true) × (b ≡ true)
both true b h = (refl, h)
both false b h = cc

-- bytes that are tested to be digits have values as digits
pub all_digits : (w : List ℕ) → list_all is_digit w ≡ true → AllDigits 10 w
all_digits [] h = tt
all_digits (b ∷ bs) h = (
  value_from_digit b (both (is_digit b) (list_all is_digit bs) h).0,
  all_digits bs
      (both (is_digit b) (list_all is_digit bs) h).1,
)

digit_test : (b : ℕ) → digit_value b < 10 → is_digit b ≡ true
digit_test b h = let d = digit_from_value b h in at d.low d.high
  where
    at : 48 ≤ b → b ≤ 57 → (nat_le 48 b && nat_le b 57) ≡ true
    at l h = grind (arith, nat_tests)

-- .. and the other way round
pub all_tests : (w : List ℕ) → AllDigits 10 w → list_all is_digit w ≡ true
all_tests [] d = refl
all_tests (b ∷ bs) d = ap (λ t. t && list_all is_digit bs) (digit_test b d.0) ∙ all_tests bs d.1

digit_at : (w : List ℕ) (i : ℕ) → AllDigits 10 w → i < length w → digit_value (slice_index w i) < 10
digit_at [] i d h = absurd (omega arith)
digit_at (b ∷ bs) zero d h = d.0
digit_at (b ∷ bs) (suc i) d h = digit_at bs i d.1 (omega arith)

digits_before : (w : List ℕ) (i : ℕ) → AllDigits 10 w → AllDigits 10 (take i w)
digits_before w zero d = tt
digits_before [] (suc i) d = tt
digits_before (b ∷ bs) (suc i) d = (d.0, digits_before bs i d.1)

-- the next of the digits, and the value before and behind it
pub record IsNextDigit (w : List ℕ) (i value : ℕ) : Type 0 where
  pub digit : IsDigit (slice_index w i)
  pub small : value * 10 + (slice_index w i - 48) < 2 ^ 64
  pub next : value * 10 + (slice_index w i - 48) ≡ digits_value 10 (take (i + 1) w)

-- behind the value of the first i of few digits stands the next one
pub next_digit : (w : List ℕ) (i value : ℕ) → AreFewDigits w → i < length w → value ≡ digits_value 10 (take i w)
    → IsNextDigit w i value
next_digit w i value few below is =
    let digit : IsDigit (slice_index w i) = digit_from_value (slice_index w i) (digit_at w i few.digits below) in
    let bound : digits_value 10 (take i w) < 10 ^ length (take i w) =
    digits_value-lt 10 (take i w) (digits_before w i few.digits) in
    let size : length (take i w) ≤ 18 = omega (arith, length-take i w, few.few, below) in
    let power : 10 ^ length (take i w) ≤ 10 ^ 18 = pow-le-pow_right {n = 10} (omega arith) size in
    record {
      digit = digit;
      small = omega (arith, bound, power, is, digit.high, digit.low);
      next = omega (arith, digits_value_more 10 w i below, is, digit.value);
    }

-- what the test of a number says
pub record IsTested (most : ℕ) (w : List ℕ) : Type 0 where
  pub some : 0 < length w
  pub few : length w ≤ most
  pub first : slice_index w 0 ≡ 48 → length w ≡ 1
  pub digits : AllDigits 10 w

pub tested : (most : ℕ) (w : List ℕ) → is_number most w ≡ true → IsTested most w
tested most [] h = cc
tested most (b ∷ bs) h =
    let parts =
    both (nat_le (length (b ∷ bs)) most) ((length (b ∷ bs) == 1 || not (b == 48)) && list_all is_digit (b ∷ bs)) h
    in
    let more = both (length (b ∷ bs) == 1 || not (b == 48)) (list_all is_digit (b ∷ bs)) parts.1 in
    record {
      some = omega arith;
      few = within (length (b ∷ bs)) parts.0;
      first = lone (length (b ∷ bs)) more.0;
      digits = all_digits (b ∷ bs) more.1;
    }
  where
    within : (l : ℕ) → nat_le l most ≡ true → l ≤ most
    within l e = grind (arith, nat_tests)

    lone : (l : ℕ) → (l == 1 || not (b == 48)) ≡ true → b ≡ 48 → l ≡ 1
    lone l t e = grind (arith, nat_tests)

-- a number has few digits
pub few_digits : (most : ℕ) (w : List ℕ) → most ≤ MOST_U64_DIGITS → is_number most w ≡ true → AreFewDigits w
few_digits most w fits h = let t = tested most w h in record { digits = t.digits; few = omega (arith, t.few, fits) }

-- where all digits were read, their value is the number of the word
pub number_is : (most : ℕ) (w : List ℕ) (value : ℕ) → is_number most w ≡ true → value ≡ digits_value 10 w
    → Some value ≡ number_of most w
unfolding number_of
number_is most w value test e = ap (λ n. Some n) e ∙ ap (λ c. cond c (Some (digits_value 10 w)) None) (sym test)

-- a word that is no number has none
pub no_number : (most : ℕ) (w : List ℕ) → is_number most w ≡ false → None ≡ number_of most w
unfolding number_of
no_number most w test = ap (λ c. cond c (Some (digits_value 10 w)) None) (sym test)
