use Rattle.std.proofs.Common.{◌≡◌, ℕ, ◌-◌, ◌≤◌, Bool, true, false, List, [], ◌∷◌, length, get_or, take, drop, map, refl, sym, ap, ◌∙◌, arith}
use Rattle.std.specs.Prelude.{Option, Some, if◌then◌else◌, option_and_then, codes}
use Rattle.std.specs.Str.{bytes_eq}
use Rattle.std.proofs.lemmas.List.{take_all}
use Rattle.command_line.specs.declared.words.Options.{Options}
use Rattle.command_line.specs.Words.{options_from, with_smooth, with_number}
use Rattle.command_line.proofs.words.+read_options.Goals as goal

other_word : {A : Type 0} (b : Bool) (x y : A) → b ≡ false → (if b then x else y) ≡ y
other_word true x y e = cc
other_word false x y e = refl

this_word : {A : Type 0} (b : Bool) (x y : A) → b ≡ true → (if b then x else y) ≡ x
this_word true x y e = refl
this_word false x y e = cc

-- the option of one word in front of the others
smoothing : {A : Type 0} (f : A → List ℕ) (given o : Options) (words : List A) (w : A) (word : List ℕ)
    (answer : Option Options) →
    w ≡ get_or words 0 w → 1 ≤ length words → word ≡ f w →
    bytes_eq word (codes "--smooth") ≡ true → answer ≡ with_smooth given → answer ≡ Some o →
    options_from given (map f words) ≡ options_from o (map f (take (length words - 1) (drop 1 words)))
smoothing f given o [] w word answer w-is size word-is other with is = absurd (omega (arith, size))
smoothing f given o (x ∷ []) w word answer w-is size word-is this with is =
    let test : bytes_eq (f x) (codes "--smooth") ≡ true =
    ap (λ b. bytes_eq b (codes "--smooth")) (ap f (sym w-is) ∙ sym word-is) ∙ this in
    this_word _ _ _ test ∙ sym with ∙ is
smoothing f given o (x ∷ y ∷ zs) w word answer w-is size word-is this with is =
    let test : bytes_eq (f x) (codes "--smooth") ≡ true =
    ap (λ b. bytes_eq b (codes "--smooth")) (ap f (sym w-is) ∙ sym word-is) ∙ this in
    this_word _ _ _ test ∙ ap (λ q. option_and_then (λ p. options_from p (f y ∷ map f zs)) q) (sym with ∙ is)
    ∙ ap (λ l. options_from o (map f l)) (sym (take_all (length (x ∷ y ∷ zs) - 1) (y ∷ zs) (omega arith)))

-- an option of two words in front of the others
numbered : {A : Type 0} (f : A → List ℕ) (given o : Options) (words : List A) (w v n : A) (word option number : List ℕ)
    (answer : Option Options) →
    w ≡ get_or words 0 w → v ≡ get_or words 0 v → n ≡ get_or words 1 n → 2 ≤ length words → word ≡ f w → option ≡ f v
    → number ≡ f n →
    bytes_eq word (codes "--smooth") ≡ false → answer ≡ with_number given option number → answer ≡ Some o →
    options_from given (map f words) ≡ options_from o (map f (take (length words - 2) (drop 2 words)))
numbered f given o [] w v n word option number answer w-is v-is n-is size word-is option-is number-is other with is =
    absurd (omega (arith, size))
numbered f given o (x ∷ []) w v n word option number answer w-is v-is n-is size word-is option-is number-is other with
    is = absurd (omega (arith, size))
numbered f given o (x ∷ y ∷ zs) w v n word option number answer w-is v-is n-is size word-is option-is number-is other
    with is =
    let test : bytes_eq (f x) (codes "--smooth") ≡ false =
    ap (λ b. bytes_eq b (codes "--smooth")) (ap f (sym w-is) ∙ sym word-is) ∙ other in
    let first : f x ≡ option = ap f (sym v-is) ∙ sym option-is in
    let second : f y ≡ number = ap f (sym n-is) ∙ sym number-is in
    let chosen : with_number given (f x) (f y) ≡ Some o =
    (λ i. with_number given (first i) (second i)) ∙ sym with ∙ is in
    other_word _ _ _ test ∙ ap (λ q. option_and_then (λ p. options_from p (map f zs)) q) chosen
    ∙ ap (λ l. options_from o (map f l)) (sym (take_all (length (x ∷ y ∷ zs) - 2) zs (omega arith)))

pub returns-in_ok-with_number-in-len2-up-clause-given :
    goal.returns-in_ok-with_number-in-len2-up-clause-given
returns-in_ok-with_number-in-len2-up-clause-given t c =
    c.read_options-in-len2-up.ensures.given
    ∙ sym (numbered _ c.args.given _ c.args.words.now _ _ _ _ _ _ _ c.option-item.is c.option-item-2.is
    c.number-item.is c.in-len2-up.len_at_least c.as_str.ensures.value c.as_str-in-len2-up.ensures.value
    c.as_str-in-len2-up-2.ensures.value (sym c.eq.ensures ∙ c.if-eq.false) c.with_number.ensures.given
    c.in_ok-with_number-in-len2-up.was)

pub returns-in_ok-with_smooth-in-len1-up-clause-given : goal.returns-in_ok-with_smooth-in-len1-up-clause-given
returns-in_ok-with_smooth-in-len1-up-clause-given t c =
    c.read_options.ensures.given ∙ sym (smoothing _ c.args.given _ c.args.words.now _ _ _ c.option-item.is
    c.in-len1-up.len_at_least c.as_str.ensures.value (sym c.eq.ensures ∙ c.if-eq.true) c.with_smooth.ensures.given
    c.in_ok-with_smooth-in-len1-up.was)
