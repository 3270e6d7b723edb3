-- A line and the numbers in it, from the text to the numbers and back: for `named_line`, and for `Forms` and `Texts`.
use Rattle.std.specs.Prelude.{◌≡◌, ℕ, zero, suc, ◌+◌, ◌<◌, ◌^◌, ⊤, Bool, true, false, not, ◌==◌, ◌&&◌, if◌then◌else◌, List, [], ◌∷◌, ◌++◌, length, Option, Some, None, Result, Ok, Err, refl}
use Rattle.std.specs.Fmt.{decimal}
use Rattle.std.specs.Str.{bytes_eq}
use Rattle.std.proofs.Common.{◌∙◌, ap, subst, arith}
use Rattle.std.proofs.lemmas.Slice.Eq.{bytes_eq-Decides}
use Rattle.certificate.specs.declared.CertError.{CertError}
use Rattle.certificate.specs.declared.CertError.TheVariants.{Shape}
use Rattle.numerals.specs.Numbers.{number_of}
use Rattle.certificate.specs.declared.TheConstants.{MOST_DIGITS}
use Rattle.certificate.specs.Cuts.{cut, ◌and_then◌, number_before, number_behind, numbers_by}
use Rattle.certificate.specs.Grammar.{parted, named}
use Rattle.certificate.specs.Reading.{◌>>=◌, or_shape, Rest, line_at, fixed_line, named_line}
use Rattle.certificate.proofs.Digits.{IsSpelled, spelled, word_of, read_again}
use Rattle.certificate.proofs.Cutting.{avoids, IsCutAt, cut_parts, cut_again, avoids-append, IsNoDigit, newline_apart, digits_avoid}

-- ---- options and results

-- what there is behind an option and the function that follows it
pub record IsJoint {A B : Type 0} (o : Option A) (f : A → Option B) (y : B) : Type 0 where
  pub value : A
  pub first : o ≡ Some value
  pub second : f value ≡ Some y

-- where both give something
pub joint : {A B : Type 0} (o : Option A) (f : A → Option B) (y : B) → (o and_then f) ≡ Some y → IsJoint o f y
joint (Some x) f y e = record { value = x; first = refl; second = e }
joint None f y e = cc

-- what there is behind a result and the function that follows it
pub record IsBound {A B : Type 0} (m : Result A CertError) (f : A → Result B CertError) (y : B) : Type 0 where
  pub value : A
  pub first : m ≡ Ok value
  pub second : f value ≡ Ok y

-- where both give something
pub bound : {A B : Type 0} (m : Result A CertError) (f : A → Result B CertError) (y : B) → (m >>= f) ≡ Ok y
    → IsBound m f y
bound (Ok x) f y e = record { value = x; first = refl; second = e }
bound (Err r) f y e = cc

-- what is not refused for its shape is there
pub shaped : {A : Type 0} (o : Option A) (line : ℕ) (x : A) → or_shape o line ≡ Ok x → o ≡ Some x
shaped (Some y) line x e = cc
shaped None line x e = cc

-- a test that was passed, whose failure is a refusal
pub passed : {A : Type 0} (b : Bool) (x y : A) (e : CertError)
    → ◌≡◌ {A = Result A CertError} (if b then Ok x else Err e) (Ok y) → (b ≡ true) × (x ≡ y)
passed true x y e h = (refl, cc)
passed false x y e h = cc

-- one value that is there
pub some_same : {A : Type 0} (x y : A) → Some x ≡ Some y → x ≡ y
some_same x y e = cc

-- one value that is given
pub ok_same : {A : Type 0} (x y : A) → ◌≡◌ {A = Result A CertError} (Ok x) (Ok y) → x ≡ y
ok_same x y e = cc

-- ---- words that are equal

pub same_bytes : (a b : List ℕ) → bytes_eq a b ≡ true → a ≡ b
same_bytes a b e = grind (arith, bytes_eq-Decides a b)

pub bytes_same : (a : List ℕ) → bytes_eq a a ≡ true
bytes_same a = grind (arith, bytes_eq-Decides a a)

-- ---- numbers

-- each number is below 10^18
abbrev pub AreSmall : List ℕ → Type 0
AreSmall [] = ⊤
AreSmall (k ∷ ks) = (k < 10 ^ 18) × AreSmall ks

-- a spelling has digits alone
pub word_avoids : (c k : ℕ) → IsNoDigit c → k < 10 ^ 18 → avoids c (decimal k) ≡ true
word_avoids c k apart small = digits_avoid c (decimal k) apart (word_of k small).digits

pub number_before_again : (c k : ℕ) (rest : List ℕ) → IsNoDigit c → k < 10 ^ 18
    → number_before c (decimal k ++ c ∷ rest) ≡ Some (k, rest)
number_before_again c k rest apart small =
    ap (λ o. o and_then (λ p. number_of MOST_DIGITS p.0 and_then (λ j. Some (j, p.1))))
    (cut_again c (decimal k) rest (word_avoids c k apart small))
    ∙ ap (λ o. o and_then (λ j. Some (j, rest))) (read_again k small)

pub record IsSpelledBefore (c : ℕ) (s rest : List ℕ) (k : ℕ) : Type 0 where
  pub whole : s ≡ decimal k ++ c ∷ rest
  pub small : k < 10 ^ 18

pub number_before_parts : (c : ℕ) (s : List ℕ) (a : ℕ × List ℕ) → number_before c s ≡ Some a
    → IsSpelledBefore c s a.1 a.0
number_before_parts c s a e =
    let outer = joint (cut c s) (λ p. number_of MOST_DIGITS p.0 and_then (λ k. Some (k, p.1))) a e in
    let inner = joint (number_of MOST_DIGITS outer.value.0) (λ k. Some (k, outer.value.1)) a outer.second in
    let place : IsCutAt c s outer.value.0 outer.value.1 = cut_parts c s outer.value.0 outer.value.1 outer.first in
    let word : IsSpelled outer.value.0 inner.value = spelled outer.value.0 inner.value inner.first in
    let same : ◌≡◌ {A = ℕ × List ℕ} (inner.value, outer.value.1) a =
    some_same (inner.value, outer.value.1) a inner.second in
    let made : IsSpelledBefore c s outer.value.1 inner.value =
    record { whole = place.whole ∙ ap (λ w. w ++ c ∷ outer.value.1) word.word; small = word.small } in
    let P : ℕ × List ℕ → Type 0 = λ b. IsSpelledBefore c s b.1 b.0 in
    subst P same made

-- s is the spelling of the n numbers ks, with the byte c between them
pub record AreNumbers (c n : ℕ) (s ks : List ℕ) : Type 0 where
  pub text : s ≡ parted c ks
  pub count : length ks ≡ n
  pub small : AreSmall ks

-- a line from which n numbers are read is their spelling
pub numbers_parts : (c n : ℕ) (s ks : List ℕ) → numbers_by c (suc n) s ≡ Some ks → AreNumbers c (suc n) s ks
numbers_parts c zero s ks e =
    let j = joint (number_of MOST_DIGITS s) (λ k. Some (k ∷ [])) ks e in
    let word : IsSpelled s j.value = spelled s j.value j.first in
    let made : AreNumbers c 1 s (j.value ∷ []) = record { text = word.word; count = refl; small = (word.small, tt) } in
    subst (AreNumbers c 1 s) (some_same (j.value ∷ []) ks j.second) made
numbers_parts c (suc n) s ks e =
    let a = joint (number_before c s) (λ a. numbers_by c (suc n) a.1 and_then (λ ls. Some (a.0 ∷ ls))) ks e in
    let b = joint (numbers_by c (suc n) a.value.1) (λ ls. Some (a.value.0 ∷ ls)) ks a.second in
    let here : IsSpelledBefore c s a.value.1 a.value.0 = number_before_parts c s a.value a.first in
    let later : AreNumbers c (suc n) a.value.1 b.value = numbers_parts c n a.value.1 b.value b.first in
    subst (AreNumbers c (suc (suc n)) s) (some_same (a.value.0 ∷ b.value) ks b.second)
    (made s a.value.1 a.value.0 b.value n here later)
  where
    made : (s rest : List ℕ) (k : ℕ) (ls : List ℕ) (n : ℕ) → IsSpelledBefore c s rest k → AreNumbers c (suc n) rest ls
        → AreNumbers c (suc (suc n)) s (k ∷ ls)
    made s rest k [] n here later = absurd (omega (arith, later.count))
    made s rest k (l ∷ ls) n here later = record {
      text = here.whole ∙ ap (λ r. decimal k ++ c ∷ r) later.text;
      count = ap (λ m. suc m) later.count;
      small = (here.small, later.small);
    }

-- .. and from their spelling they are read
pub numbers_again : (c k : ℕ) (ks : List ℕ) → IsNoDigit c → AreSmall (k ∷ ks)
    → numbers_by c (suc (length ks)) (parted c (k ∷ ks)) ≡ Some (k ∷ ks)
numbers_again c k [] apart small = ap (λ o. o and_then (λ j. Some (j ∷ []))) (read_again k small.0)
numbers_again c k (l ∷ ks) apart small =
    ap (λ o. o and_then (λ a. numbers_by c (suc (length ks)) a.1 and_then (λ ls. Some (a.0 ∷ ls))))
    (number_before_again c k (parted c (l ∷ ks)) apart small.0)
    ∙ ap (λ o. o and_then (λ ls. Some (k ∷ ls))) (numbers_again c l ks apart small.1)

-- the spelling of numbers has no other byte than digits and the one between them
pub parted_avoids : (b c : ℕ) (ks : List ℕ) → IsNoDigit b → (c == b) ≡ false → AreSmall ks
    → avoids b (parted c ks) ≡ true
parted_avoids b c [] apart other small = refl
parted_avoids b c (k ∷ []) apart other small = word_avoids b k apart small.0
parted_avoids b c (k ∷ l ∷ ks) apart other small =
    avoids-append b (decimal k) (c ∷ parted c (l ∷ ks)) (word_avoids b k apart small.0)
    (ap (λ t. not t && avoids b (parted c (l ∷ ks))) other ∙ parted_avoids b c (l ∷ ks) apart other small.1)

-- ---- a word and a number

-- s is the word with the number k behind it
pub record IsNamed (word s : List ℕ) (k : ℕ) : Type 0 where
  pub text : s ≡ named word k
  pub small : k < 10 ^ 18

-- a line from which a number is read behind a word is of that form
pub named_parts : (word s : List ℕ) (k : ℕ) → number_behind word s ≡ Some k → IsNamed word s k
named_parts word s k e =
    let a = joint (cut 32 s) (λ p. if bytes_eq p.0 word then number_of MOST_DIGITS p.1 else None) k e in
    let place : IsCutAt 32 s a.value.0 a.value.1 = cut_parts 32 s a.value.0 a.value.1 a.first in
    at (bytes_eq a.value.0 word) a.value refl place a.second
  where
    at : (b : Bool) (v : List ℕ × List ℕ) → bytes_eq v.0 word ≡ b → IsCutAt 32 s v.0 v.1
        → (if b then number_of MOST_DIGITS v.1 else None) ≡ Some k → IsNamed word s k
    at true v t place e =
        let w : IsSpelled v.1 k = spelled v.1 k e in
        record {
          text = place.whole ∙ ap (λ f. f ++ 32 ∷ v.1) (same_bytes v.0 word t)
              ∙ ap (λ r. word ++ 32 ∷ r) w.word;
          small = w.small;
        }
    at false v t place e = cc

pub named_again : (word : List ℕ) (k : ℕ) → avoids 32 word ≡ true → k < 10 ^ 18
    → number_behind word (named word k) ≡ Some k
named_again word k clean small =
    ap (λ o. o and_then (λ p. if bytes_eq p.0 word then number_of MOST_DIGITS p.1 else None))
    (cut_again 32 word (decimal k) clean)
    ∙ ap (λ b. if b then number_of MOST_DIGITS (decimal k) else None) (bytes_same word)
    ∙ read_again k small

pub named_avoids : (word : List ℕ) (k : ℕ) → avoids 10 word ≡ true → k < 10 ^ 18 → avoids 10 (named word k) ≡ true
named_avoids word k clean small = avoids-append 10 word (32 ∷ decimal k) clean (word_avoids 10 k newline_apart small)

-- ---- lines

-- a line with its newline is read as that line
pub line_again : (number : ℕ) (line rest : List ℕ) → avoids 10 line ≡ true
    → line_at (record { number = number; bytes = line ++ 10 ∷ rest }) ≡ Ok
    (line, record { number = number + 1; bytes = rest })
line_again number line rest clean =
    ap (λ o. or_shape o number >>= (λ l. Ok (l.0, record { number = number + 1; bytes = l.1 })))
    (cut_again 10 line rest clean)

-- what is left begins with the line, and goes on behind it
pub record IsLine (r : Rest) (line : List ℕ) (next : Rest) : Type 0 where
  pub bytes : r.bytes ≡ line ++ 10 ∷ next.bytes
  pub number : next.number ≡ r.number + 1

-- what a line was read from
pub line_parts : (r : Rest) (l : List ℕ × Rest) → line_at r ≡ Ok l → IsLine r l.0 l.1
line_parts r l e =
    let a = bound (or_shape (cut 10 r.bytes) r.number) (λ c. Ok (c.0, record { number = r.number + 1; bytes = c.1 })) l
    e in
    let place : IsCutAt 10 r.bytes a.value.0 a.value.1 =
    cut_parts 10 r.bytes a.value.0 a.value.1 (shaped (cut 10 r.bytes) r.number a.value a.first) in
    let made : IsLine r a.value.0 (record { number = r.number + 1; bytes = a.value.1 }) =
    record { bytes = place.whole; number = refl } in
    let P : List ℕ × Rest → Type 0 = λ m. IsLine r m.0 m.1 in
    let same : ◌≡◌ {A = List ℕ × Rest} (a.value.0, record { number = r.number + 1; bytes = a.value.1 }) l =
    ok_same _ l a.second in
    subst P same made

-- a fixed line is read where it stands
pub fixed_again : (number : ℕ) (line rest : List ℕ) → avoids 10 line ≡ true
    → fixed_line line (record { number = number; bytes = line ++ 10 ∷ rest }) ≡ Ok
    (record { number = number + 1; bytes = rest })
fixed_again number line rest clean =
    ap (λ m. m >>= (λ l. if bytes_eq l.0 line then Ok l.1 else Err (Shape number))) (line_again number line rest clean)
    ∙ ap (λ b. if b then Ok (record { number = number + 1; bytes = rest }) else Err (Shape number)) (bytes_same line)

-- what a fixed line was read from
pub fixed_parts : (text : List ℕ) (r next : Rest) → fixed_line text r ≡ Ok next → IsLine r text next
fixed_parts text r next e =
    let a = bound (line_at r) (λ l. if bytes_eq l.0 text then Ok l.1 else Err (Shape r.number)) next e in
    let t = passed (bytes_eq a.value.0 text) a.value.1 next (Shape r.number) a.second in
    let line : IsLine r a.value.0 a.value.1 = line_parts r a.value a.first in
    let P : List ℕ → Type 0 = λ w. IsLine r w a.value.1 in
    let Q : Rest → Type 0 = λ n. IsLine r text n in
    subst Q t.1 (subst P (same_bytes a.value.0 text t.0) line)

-- a line of a word and a number is read where it stands
pub named_line_again : (number : ℕ) (word : List ℕ) (k : ℕ) (rest : List ℕ) → avoids 10 word ≡ true
    → avoids 32 word ≡ true → k < 10 ^ 18
    → named_line word (record { number = number; bytes = named word k ++ 10 ∷ rest }) ≡ Ok
    (k, record { number = number + 1; bytes = rest })
named_line_again number word k rest clean one small =
    ap (λ m. m >>= (λ l. or_shape (number_behind word l.0) number >>= (λ j. Ok (j, l.1))))
    (line_again number (named word k) rest (named_avoids word k clean small))
    ∙ ap (λ o. or_shape o number >>= (λ j. Ok (j, record { number = number + 1; bytes = rest })))
    (named_again word k one small)

-- what is left begins with a line of the word and the number k
pub record IsNamedLine (word : List ℕ) (r : Rest) (k : ℕ) (next : Rest) : Type 0 where
  pub line : IsLine r (named word k) next
  pub small : k < 10 ^ 18

-- what such a line was read from
pub named_line_parts : (word : List ℕ) (r : Rest) (x : ℕ × Rest) → named_line word r ≡ Ok x → IsNamedLine word r x.0 x.1
named_line_parts word r x e =
    let a = bound (line_at r) (λ l. or_shape (number_behind word l.0) r.number >>= (λ k. Ok (k, l.1))) x e in
    let b = bound (or_shape (number_behind word a.value.0) r.number) (λ k. Ok (k, a.value.1)) x a.second in
    let line : IsLine r a.value.0 a.value.1 = line_parts r a.value a.first in
    let word_is : IsNamed word a.value.0 b.value =
    named_parts word a.value.0 b.value (shaped (number_behind word a.value.0) r.number b.value b.first) in
    let P : List ℕ → Type 0 = λ w. IsLine r w a.value.1 in
    let made : IsNamedLine word r b.value a.value.1 =
    record { line = subst P word_is.text line; small = word_is.small } in
    let Q : ℕ × Rest → Type 0 = λ y. IsNamedLine word r y.0 y.1 in
    let same : ◌≡◌ {A = ℕ × Rest} (b.value, a.value.1) x = ok_same (b.value, a.value.1) x b.second in
    subst Q same made
