-- The first word of a line, and those behind it: for the next word of an iterator.
use Rattle.std.specs.Prelude.{◌≡◌, ◌≢◌, ℕ, suc, ◌+◌, Bool, true, false, not, cond, List, [], ◌∷◌, length, take, drop, filter, refl}
use Rattle.std.specs.List.{prefix_len, position_or_len, slice_split, onto_first}
use Rattle.std.proofs.Common.{sym, ◌∙◌, ap, subst, arith}
use Rattle.script_reader.specs.Words.{is_separator, behind_separators, is_some_word, words_of}

one_more : (n : ℕ) → 1 + n ≡ suc n
one_more n = omega arith

-- the parts behind the first separator
parts_behind : List ℕ → List (List ℕ)
parts_behind [] = []
parts_behind (y ∷ ys) = slice_split is_separator ys

split_first : (t : List ℕ) → slice_split is_separator t ≡ take (position_or_len is_separator t) t ∷ parts_behind
    (drop (position_or_len is_separator t) t)
unfolding parts_behind
split_first [] = refl
split_first (x ∷ xs) = at (is_separator x) (split_first xs)
  where
    at : (b : Bool) → slice_split is_separator xs ≡ take (position_or_len is_separator xs) xs ∷ parts_behind
        (drop (position_or_len is_separator xs) xs)
        → cond b ([] ∷ slice_split is_separator xs) (onto_first x (slice_split is_separator xs)) ≡ take
        (cond (not b) (1 + position_or_len is_separator xs) 0) (x ∷ xs) ∷ parts_behind
        (drop (cond (not b) (1 + position_or_len is_separator xs) 0) (x ∷ xs))
    at true h = refl
    at false h =
        ap (onto_first x) h ∙ ap (λ n. take n (x ∷ xs) ∷ parts_behind (drop n (x ∷ xs)))
        (sym (one_more (position_or_len is_separator xs)))

-- the words behind the first separator are those from it on
words_behind : (t : List ℕ) → filter is_some_word (parts_behind (drop (position_or_len is_separator t) t)) ≡ words_of
    (drop (position_or_len is_separator t) t)
unfolding parts_behind words_of
words_behind [] = refl
words_behind (x ∷ xs) = at (is_separator x) refl (words_behind xs)
  where
    at : (b : Bool) → is_separator x ≡ b → filter is_some_word
        (parts_behind (drop (position_or_len is_separator xs) xs)) ≡ words_of
        (drop (position_or_len is_separator xs) xs)
        → filter is_some_word (parts_behind (drop (cond (not b) (1 + position_or_len is_separator xs) 0) (x ∷ xs))) ≡
        filter is_some_word (slice_split is_separator
        (drop (cond (not b) (1 + position_or_len is_separator xs) 0) (x ∷ xs)))
    at true e h =
        ap (λ c. filter is_some_word (cond c ([] ∷ slice_split is_separator xs)
        (onto_first x (slice_split is_separator xs)))) (sym e)
    at false e h =
        subst (λ n. filter is_some_word (parts_behind (drop n (x ∷ xs))) ≡ filter is_some_word
        (slice_split is_separator (drop n (x ∷ xs)))) (sym (one_more (position_or_len is_separator xs))) h

-- what begins with a separator, or not at all, has the words of what follows
skipped : (bs : List ℕ) → words_of bs ≡ words_of (drop (prefix_len is_separator bs) bs)
unfolding words_of
skipped [] = refl
skipped (b ∷ bs) = at (is_separator b) refl (skipped bs)
  where
    at : (c : Bool) → is_separator b ≡ c → words_of bs ≡ words_of (drop (prefix_len is_separator bs) bs)
        → words_of (b ∷ bs) ≡ words_of (drop (cond c (1 + prefix_len is_separator bs) 0) (b ∷ bs))
    at true e h =
        ap (λ c. filter is_some_word (cond c ([] ∷ slice_split is_separator bs)
        (onto_first b (slice_split is_separator bs)))) e ∙ h
        ∙ ap (λ n. words_of (drop n (b ∷ bs))) (sym (one_more (prefix_len is_separator bs)))
    at false e h = refl

-- a text that begins with its first word
first_here : (t : List ℕ) → take (position_or_len is_separator t) t ≢ []
    → words_of t ≡ take (position_or_len is_separator t) t ∷ words_of (drop (position_or_len is_separator t) t)
unfolding words_of
first_here t some =
    ap (filter is_some_word) (split_first t)
    ∙ at (take (position_or_len is_separator t) t) some
    ∙ ap (λ ws. take (position_or_len is_separator t) t ∷ ws) (words_behind t)
  where
    at : (w : List ℕ) → w ≢ [] → filter is_some_word (w ∷ parts_behind (drop (position_or_len is_separator t) t)) ≡ w ∷
        filter is_some_word (parts_behind (drop (position_or_len is_separator t) t))
    at [] some = absurd (some refl)
    at (b ∷ bs) some = refl

pub next_word : (bs : List ℕ) → take (position_or_len is_separator (behind_separators bs)) (behind_separators bs) ≢ []
    → words_of bs ≡ take (position_or_len is_separator (behind_separators bs)) (behind_separators bs) ∷ words_of
    (drop (position_or_len is_separator (behind_separators bs)) (behind_separators bs))
next_word bs some = skipped bs ∙ first_here (behind_separators bs) some

-- no word is left
pub no_word : (bs : List ℕ) → take (position_or_len is_separator (behind_separators bs)) (behind_separators bs) ≡ []
    → words_of bs ≡ []
unfolding words_of
no_word [] none = refl
no_word (b ∷ bs) none = at (is_separator b) refl none (no_word bs)
  where
    more : (k : ℕ) → take (1 + k) (b ∷ bs) ≡ b ∷ take k bs
    more k = ap (λ n. take n (b ∷ bs)) (one_more k)

    at : (c : Bool) → is_separator b ≡ c → take
        (position_or_len is_separator (drop (cond c (1 + prefix_len is_separator bs) 0) (b ∷ bs)))
        (drop (cond c (1 + prefix_len is_separator bs) 0) (b ∷ bs)) ≡ []
        → (take (position_or_len is_separator (behind_separators bs)) (behind_separators bs) ≡ [] → words_of bs ≡ [])
        → words_of (b ∷ bs) ≡ []
    at true e none h =
        ap (λ c. filter is_some_word (cond c ([] ∷ slice_split is_separator bs)
        (onto_first b (slice_split is_separator bs)))) e
        ∙ h (subst (λ n. take (position_or_len is_separator (drop n (b ∷ bs))) (drop n (b ∷ bs)) ≡ [])
        (one_more (prefix_len is_separator bs)) none)
    at false e none h =
        let long : take (cond (not false) (1 + position_or_len is_separator bs) 0) (b ∷ bs) ≡ [] =
        subst (λ c. take (cond (not c) (1 + position_or_len is_separator bs) 0) (b ∷ bs) ≡ []) e none in
        let split : b ∷ take (position_or_len is_separator bs) bs ≡ [] =
        sym (more (position_or_len is_separator bs)) ∙ long in
        cc

-- the same, of a word that was cut off
module _ (bs t front back : List ℕ) (k : ℕ) (behind : t ≡ behind_separators bs)
    (len : k ≡ position_or_len is_separator t) (first : front ≡ take k t) where
  -- where the word that was cut off is empty, no word is left
  pub no_word_cut : length front ≡ 0 → words_of bs ≡ []
  no_word_cut none =
      let empty : front ≡ [] = empty_of front none in
      no_word bs (ap (λ u. take (position_or_len is_separator u) u) (sym behind) ∙ ap (λ n. take n t) (sym len)
      ∙ sym first ∙ empty)
    where
      empty_of : (xs : List ℕ) → length xs ≡ 0 → xs ≡ []
      empty_of [] e = refl
      empty_of (x ∷ xs) e = absurd (omega arith)

  -- .. and else it is the first word, in front of those of what stands behind it
  pub word_cut : back ≡ drop k t → length front ≢ 0 → words_of bs ≡ front ∷ words_of back
  word_cut rest some =
      let is_front : front ≡ take (position_or_len is_separator (behind_separators bs)) (behind_separators bs) =
      first ∙ ap (λ n. take n t) len ∙ ap (λ u. take (position_or_len is_separator u) u) behind in
      let is_back : back ≡ drop (position_or_len is_separator (behind_separators bs)) (behind_separators bs) =
      rest ∙ ap (λ n. drop n t) len ∙ ap (λ u. drop (position_or_len is_separator u) u) behind in
      next_word bs (λ e. some (ap length (is_front ∙ e)))
      ∙ ap (λ w. w ∷ words_of (drop (position_or_len is_separator (behind_separators bs)) (behind_separators bs)))
      (sym is_front) ∙ ap (λ r. front ∷ words_of r) (sym is_back)
