-- The number that a word is: `0`, or digits of which the first is not 0, and at most so many of them.
use Rattle.std.specs.Prelude.{ℕ, ◌≤◌, Bool, false, not, ◌==◌, ◌&&◌, ◌||◌, nat_le, if◌then◌else◌, List, [], ◌∷◌, length, Option, Some, None}
use Rattle.std.specs.List.{list_all}
use Rattle.std.specs.Str.Parse.{digits_value, AllDigits}
use Rattle.numerals.specs.declared.TheConstants.{MOST_U64_DIGITS}

abbrev pub is_digit : ℕ → Bool
is_digit b = nat_le 48 b && nat_le b 57

-- `0` alone begins with a zero
abbrev pub is_number : ℕ → List ℕ → Bool
is_number most [] = false
is_number most (b ∷ bs) =
    nat_le (length (b ∷ bs)) most && ((length (b ∷ bs) == 1 || not (b == 48)) && list_all is_digit (b ∷ bs))

-- the number that a word of at most so many digits is
unfoldable pub number_of : ℕ → List ℕ → Option ℕ
number_of most w = if is_number most w then Some (digits_value 10 w) else None

-- digits, few enough for their value to fit 64 bits
pub record AreFewDigits (w : List ℕ) : Type 0 where
  pub digits : AllDigits 10 w
  pub few : length w ≤ MOST_U64_DIGITS
