-- Bytes that are cut at the first of a kind, and the numbers of a line.
use Rattle.std.specs.Prelude.{ℕ, zero, suc, ◌==◌, if◌then◌else◌, List, [], ◌∷◌, Option, Some, None}
use Rattle.std.specs.Str.{bytes_eq}
use Rattle.numerals.specs.Numbers.{number_of}
use Rattle.certificate.specs.declared.TheConstants.{MOST_DIGITS}

-- a byte before the front
abbrev pub onto_front : ℕ → Option (List ℕ × List ℕ) → Option (List ℕ × List ℕ)
onto_front b None = None
onto_front b (Some p) = Some (b ∷ p.0, p.1)

-- what stands before the first such byte and what stands behind it, if there is one
unfoldable pub cut : ℕ → List ℕ → Option (List ℕ × List ℕ)
cut c [] = None
cut c (b ∷ bs) = if b == c then Some ([], bs) else onto_front b (cut c bs)

infixl 10 ◌and_then◌
abbrev pub ◌and_then◌ : {A B : Type 0} → Option A → (A → Option B) → Option B
None and_then f = None
Some x and_then f = f x

-- the number before the first such byte, and what stands behind it
abbrev pub number_before : ℕ → List ℕ → Option (ℕ × List ℕ)
number_before c s = cut c s and_then (λ p. number_of MOST_DIGITS p.0 and_then (λ k. Some (k, p.1)))

-- the number behind a word and a space
abbrev pub number_behind : List ℕ → List ℕ → Option ℕ
number_behind word s = cut 32 s and_then (λ p. if bytes_eq p.0 word then number_of MOST_DIGITS p.1 else None)

-- so many numbers with one such byte between each two
abbrev pub numbers_by : ℕ → ℕ → List ℕ → Option (List ℕ)
numbers_by c zero s = None
numbers_by c (suc zero) s = number_of MOST_DIGITS s and_then (λ k. Some (k ∷ []))
numbers_by c (suc (suc n)) s =
    number_before c s and_then (λ a. numbers_by c (suc n) a.1 and_then (λ ks. Some (a.0 ∷ ks)))

-- the first word, and what stands behind the space that ends it, if there is one
abbrev pub word_or_all : List ℕ → Option (List ℕ × List ℕ) → List ℕ × Option (List ℕ)
word_or_all s None = (s, None)
word_or_all s (Some p) = (p.0, Some p.1)

abbrev pub first_word : List ℕ → List ℕ × Option (List ℕ)
first_word s = word_or_all s (cut 32 s)
