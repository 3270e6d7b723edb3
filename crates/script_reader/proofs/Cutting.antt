-- Lines that are cut piece by piece: for `LineCutter::feed`, its `keep`, and `line_part`.
use Rattle.std.specs.Prelude.{◌≡◌, ℕ, zero, suc, ◌+◌, ◌-◌, ◌<◌, ◌≤◌, min, Bool, true, false, not, cond, ◌||◌, nat_lt, if◌then◌else◌, List, [], ◌∷◌, ◌++◌, length, take, slice_index, refl}
use Rattle.std.specs.List.{list_any, position_or_len}
use Rattle.std.proofs.Common.{sym, ◌∙◌, ap, subst, arith, length-append}
use Rattle.std.proofs.Math.Seq.{take-append-add}
use Rattle.std.proofs.lemmas.Bool.Decides.{nat_tests}
use Rattle.std.proofs.lemmas.List.{length-take, take_min, take_all}
use Rattle.std.proofs.lemmas.List.Folds.{length-prefix_len}
use Rattle.script_reader.specs.declared.TheConstants.{MOST_LINE_BYTES}
use Rattle.script_reader.specs.Input.{is_newline, onto_line, whole_lines, open_rest}
use Rattle.script_reader.specs.Cutter.{Cutting, StandsFor, line_part, has_newline, CutsLines}

-- ---- the first newline

one_more : (n : ℕ) → 1 + n ≡ suc n
one_more n = omega arith

pub record IsNewlineAt (piece : List ℕ) (k : ℕ) : Type 0 where
  pub some : has_newline piece ≡ true
  pub place : position_or_len is_newline piece ≡ k

-- the first newline of a piece stands where the search stopped
pub newline_at : (piece : List ℕ) (k : ℕ) → k < length piece
    → ((j : ℕ) → j < k → is_newline (slice_index piece j) ≡ true → ⊥) → is_newline (slice_index piece k) ≡ true
    → IsNewlineAt piece k
newline_at [] k l before here = absurd (omega arith)
newline_at (b ∷ bs) zero l before here = at (is_newline b) refl here
  where
    at : (c : Bool) → is_newline b ≡ c → c ≡ true → IsNewlineAt (b ∷ bs) zero
    at true e h =
        record {
          some = ap (λ c. c || list_any is_newline bs) e;
          place
              = ap (λ c. cond (not c) (1 + position_or_len is_newline bs) 0) e;
        }
    at false e h = cc
newline_at (b ∷ bs) (suc k) l before here =
    at (is_newline b) refl (newline_at bs k (omega (arith, l)) (λ j p. before (suc j) (omega (arith, p))) here)
  where
    at : (c : Bool) → is_newline b ≡ c → IsNewlineAt bs k → IsNewlineAt (b ∷ bs) (suc k)
    at true e h = absurd (before zero (omega arith) e)
    at false e h = record {
      some = ap (λ c. c || list_any is_newline bs) e ∙ h.some;
      place = ap (λ c. cond (not c) (1 + position_or_len is_newline bs) 0) e ∙ one_more (position_or_len is_newline bs)
          ∙ ap (λ n. suc n) h.place;
    }

pub record HasNoNewline (piece : List ℕ) : Type 0 where
  pub none : has_newline piece ≡ false
  pub place : position_or_len is_newline piece ≡ length piece

-- a search to the end that found none: the piece has no newline
pub no_newline : (piece : List ℕ) → ((j : ℕ) → j < length piece → is_newline (slice_index piece j) ≡ true → ⊥)
    → HasNoNewline piece
no_newline [] nowhere = record { none = refl; place = refl }
no_newline (b ∷ bs) nowhere = at (is_newline b) refl (no_newline bs (λ j p. nowhere (suc j) (omega (arith, p))))
  where
    at : (c : Bool) → is_newline b ≡ c → HasNoNewline bs → HasNoNewline (b ∷ bs)
    at true e h = absurd (nowhere zero (omega arith) e)
    at false e h = record {
      none = ap (λ c. c || list_any is_newline bs) e ∙ h.none;
      place = ap (λ c. cond (not c) (1 + position_or_len is_newline bs) 0) e ∙ ap (λ n. 1 + n) h.place
          ∙ one_more (length bs);
    }

pub length-line_part : (piece : List ℕ) → length (line_part piece) ≡ position_or_len is_newline piece
length-line_part piece = length-prefix_len (λ b. not (is_newline b)) piece

-- ---- what is kept

-- what is kept, with as many more bytes as there is room for, is the front of both
pub kept_within : (kept bytes : List ℕ) (count : ℕ) → length kept ≤ MOST_LINE_BYTES
    → count ≡ min (MOST_LINE_BYTES - length kept) (length bytes) → kept
    ++ take count bytes ≡ take MOST_LINE_BYTES (kept ++ bytes)
kept_within kept bytes count size is =
    let whole : length kept + (MOST_LINE_BYTES - length kept) ≡ MOST_LINE_BYTES = omega (arith, size) in
    ap (λ n. kept ++ take n bytes) is
    ∙ ap (λ r. kept ++ r) (take_min (MOST_LINE_BYTES - length kept) bytes)
    ∙ sym (take-append-add kept bytes (MOST_LINE_BYTES - length kept))
    ∙ ap (λ n. take n (kept ++ bytes)) whole

-- what is kept of a content that is not too long is all of it
pub kept_whole : (cutting : Cutting) (content : List ℕ) → StandsFor cutting content → cutting.too_long ≡ false
    → cutting.kept ≡ content
kept_whole cutting content h short = h.kept ∙ take_all MOST_LINE_BYTES content (within (sym h.too_long ∙ short))
  where
    within : nat_lt 65536 (length content) ≡ false → length content ≤ 65536
    within e = grind (arith, nat_tests)

-- where nothing is kept there is no content
pub no_content : (cutting : Cutting) (content : List ℕ) → StandsFor cutting content → length cutting.kept ≡ 0
    → content ≡ []
no_content cutting [] h none = refl
no_content cutting (b ∷ content) h none = absurd (omega (arith, ap length h.kept, none))

-- a longer content
take-take_append : (n : ℕ) (xs ys : List ℕ) → take n (take n xs ++ ys) ≡ take n (xs ++ ys)
take-take_append zero xs ys = refl
take-take_append (suc n) [] ys = refl
take-take_append (suc n) (x ∷ xs) ys = ap (λ r. x ∷ r) (take-take_append n xs ys)

pub stands_for_none : StandsFor (record { kept = []; too_long = false; whole = false }) []
stands_for_none = record { kept = refl; too_long = refl }

-- a cutter that stands for the front of a line stands for more of it after more bytes
pub stands_for_more : (old new : Cutting) (content bytes : List ℕ) → StandsFor old content
    → new.kept ≡ take MOST_LINE_BYTES (old.kept ++ bytes)
    → new.too_long ≡ (old.too_long || nat_lt MOST_LINE_BYTES (length old.kept + length bytes))
    → StandsFor new (content ++ bytes)
stands_for_more old new content bytes h kept too_long = record {
  kept = kept ∙ ap (λ k. take MOST_LINE_BYTES (k ++ bytes)) h.kept ∙ take-take_append MOST_LINE_BYTES content bytes;
  too_long =
      too_long ∙ ap (λ b. b || nat_lt MOST_LINE_BYTES (length old.kept + length bytes)) h.too_long
      ∙ ap (λ k. nat_lt MOST_LINE_BYTES (length content) || nat_lt MOST_LINE_BYTES (k + length bytes))
      (ap length h.kept ∙ length-take MOST_LINE_BYTES content) ∙ test (length content) (length bytes)
      ∙ ap (λ k. nat_lt MOST_LINE_BYTES k) (sym (length-append content bytes));
}
  where
    test : (c b : ℕ) → (nat_lt 65536 c || nat_lt 65536 (min 65536 c + b)) ≡ nat_lt 65536 (c + b)
    test c b = grind (arith, nat_tests)

-- ---- the lines of a longer input

any-append : (a p : List ℕ) → list_any is_newline (a ++ p) ≡ (list_any is_newline a || list_any is_newline p)
any-append [] p = refl
any-append (b ∷ a) p =
    ap (λ c. is_newline b || c) (any-append a p)
    ∙ or_assoc (is_newline b) (list_any is_newline a) (list_any is_newline p)
  where
    or_assoc : (x y z : Bool) → (x || (y || z)) ≡ ((x || y) || z)
    or_assoc true y z = refl
    or_assoc false y z = refl

or_false : (b : Bool) → (b || false) ≡ b
or_false true = refl
or_false false = refl

-- without a newline there is no whole line
record IsOpen (a : List ℕ) : Type 0 where
  lines : whole_lines a ≡ []
  rest : open_rest a ≡ a

open_text : (a : List ℕ) → list_any is_newline a ≡ false → IsOpen a
open_text [] none = record { lines = refl; rest = refl }
open_text (b ∷ a) none = at (is_newline b) (list_any is_newline a) refl refl none (open_text a)
  where
    at : (c d : Bool) → is_newline b ≡ c → list_any is_newline a ≡ d → (c || d) ≡ false
        → (list_any is_newline a ≡ false → IsOpen a) → IsOpen (b ∷ a)
    at true d e f none h = cc
    at false true e f none h = cc
    at false false e f none h = record {
      lines = ap (λ c. if c then [] ∷ whole_lines a else onto_line b (whole_lines a)) e ∙ ap (onto_line b) (h f).lines;
      rest = ap (λ c. if c then open_rest a else (if list_any is_newline a then open_rest a else b ∷ a)) e
          ∙ ap (λ c. if c then open_rest a else b ∷ a) f;
    }

pub record IsLonger (a p : List ℕ) : Type 0 where
  pub lines : whole_lines (a ++ p) ≡ whole_lines a
  pub rest : open_rest (a ++ p) ≡ open_rest a ++ p

-- bytes without a newline make the rest longer
pub longer : (a p : List ℕ) → list_any is_newline p ≡ false → IsLonger a p
longer [] p none = let o = open_text p none in record { lines = o.lines; rest = o.rest }
longer (b ∷ a) p none =
    at (is_newline b) (list_any is_newline a) refl
    (any-append a p ∙ ap (λ c. list_any is_newline a || c) none ∙ or_false (list_any is_newline a)) refl
    (longer a p none)
  where
    at : (c d : Bool) → is_newline b ≡ c → list_any is_newline (a ++ p) ≡ list_any is_newline a
        → list_any is_newline a ≡ d → IsLonger a p → IsLonger (b ∷ a) p
    at c d e same f h = record {
      lines = ap (λ ls. if is_newline b then [] ∷ ls else onto_line b ls) h.lines;
      rest = ap (λ t. if is_newline b then open_rest (a ++ p) else (if t then open_rest (a ++ p) else b ∷ (a ++ p)))
          same ∙ ap (λ r. if is_newline b then r else (if list_any is_newline a then r else b ∷ (a ++ p))) h.rest
          ∙ split (is_newline b) (list_any is_newline a);
    }
      where
        split : (x y : Bool) → (if x then open_rest a ++ p else (if y then open_rest a ++ p else b ∷ (a ++ p))) ≡
            (if x then open_rest a else (if y then open_rest a else b ∷ a)) ++ p
        split true y = refl
        split false true = refl
        split false false = refl

pub record EndsLine (a p : List ℕ) : Type 0 where
  pub lines : whole_lines (a ++ (p ++ 10 ∷ [])) ≡ whole_lines a ++ (open_rest a ++ p) ∷ []
  pub rest : open_rest (a ++ (p ++ 10 ∷ [])) ≡ []

any-newline : (p : List ℕ) → list_any is_newline (p ++ 10 ∷ []) ≡ true
any-newline [] = refl
any-newline (b ∷ p) = ap (λ c. is_newline b || c) (any-newline p) ∙ or_true (is_newline b)
  where
    or_true : (c : Bool) → (c || true) ≡ true
    or_true true = refl
    or_true false = refl

ends_first : (p : List ℕ) → list_any is_newline p ≡ false → EndsLine [] p
ends_first [] none = record { lines = refl; rest = refl }
ends_first (b ∷ p) none = at (is_newline b) (list_any is_newline p) refl refl none (ends_first p)
  where
    at : (c d : Bool) → is_newline b ≡ c → list_any is_newline p ≡ d → (c || d) ≡ false
        → (list_any is_newline p ≡ false → EndsLine [] p) → EndsLine [] (b ∷ p)
    at true d e f none h = cc
    at false true e f none h = cc
    at false false e f none h = record {
      lines = ap (λ c. if c then [] ∷ whole_lines (p ++ 10 ∷ []) else onto_line b (whole_lines (p ++ 10 ∷ []))) e
          ∙ ap (onto_line b) (h f).lines;
      rest = ap (λ c. if c then open_rest (p ++ 10 ∷ []) else
          (if list_any is_newline (p ++ 10 ∷ []) then open_rest (p ++ 10 ∷ []) else b ∷ (p ++ 10 ∷ []))) e
          ∙ ap (λ c. if c then open_rest (p ++ 10 ∷ []) else b ∷ (p ++ 10 ∷ [])) (any-newline p) ∙ (h f).rest;
    }

-- a newline makes a whole line
some_lines : (a : List ℕ) → list_any is_newline a ≡ true → 0 < length (whole_lines a)
some_lines [] some = cc
some_lines (b ∷ a) some = at (is_newline b) refl some (some_lines a)
  where
    onto : (ls : List (List ℕ)) → 0 < length ls → 0 < length (onto_line b ls)
    onto [] h = h
    onto (l ∷ ls) h = omega arith

    at : (c : Bool) → is_newline b ≡ c → (c || list_any is_newline a) ≡ true
        → (list_any is_newline a ≡ true → 0 < length (whole_lines a)) → 0 < length (whole_lines (b ∷ a))
    at true e f h =
        subst (λ c. 0 < length (if c then [] ∷ whole_lines a else onto_line b (whole_lines a))) (sym e) (omega arith)
    at false e f h =
        subst (λ c. 0 < length (if c then [] ∷ whole_lines a else onto_line b (whole_lines a))) (sym e)
        (onto (whole_lines a) (h f))

onto_some : (b : ℕ) (ls ms : List (List ℕ)) → 0 < length ls → onto_line b (ls ++ ms) ≡ onto_line b ls ++ ms
onto_some b [] ms h = absurd (omega arith)
onto_some b (l ∷ ls) ms h = refl

-- bytes that end in their one newline make a line of the rest and of what stands before it
pub ends_line : (a p : List ℕ) → list_any is_newline p ≡ false → EndsLine a p
ends_line [] p none = ends_first p none
ends_line (b ∷ a) p none = at (is_newline b) (list_any is_newline a) refl refl (ends_line a p none)
  where
    tail_any : list_any is_newline (a ++ (p ++ 10 ∷ [])) ≡ true
    tail_any =
        any-append a (p ++ 10 ∷ []) ∙ ap (λ c. list_any is_newline a || c) (any-newline p)
        ∙ or_true (list_any is_newline a)
      where
        or_true : (c : Bool) → (c || true) ≡ true
        or_true true = refl
        or_true false = refl

    at : (c d : Bool) → is_newline b ≡ c → list_any is_newline a ≡ d → EndsLine a p → EndsLine (b ∷ a) p
    at c d e f h = record {
      lines = ap (λ ls. if is_newline b then [] ∷ ls else onto_line b ls) h.lines
          ∙ ap (λ c. if c then [] ∷ (whole_lines a ++ (open_rest a ++ p) ∷ []) else onto_line b
          (whole_lines a ++ (open_rest a ++ p) ∷ [])) e ∙ split c d f
          ∙ ap (λ c. (if c then [] ∷ whole_lines a else onto_line b (whole_lines a))
          ++ ((if c then open_rest a else (if list_any is_newline a then open_rest a else b ∷ a)) ++ p) ∷ []) (sym e);
      rest = ap (λ t. if is_newline b then open_rest (a ++ (p ++ 10 ∷ [])) else
          (if t then open_rest (a ++ (p ++ 10 ∷ [])) else b ∷ (a ++ (p ++ 10 ∷ [])))) tail_any ∙ same (is_newline b)
          ∙ h.rest;
    }
      where
        same : (x : Bool) → (if x then open_rest (a ++ (p ++ 10 ∷ [])) else
            (if true then open_rest (a ++ (p ++ 10 ∷ [])) else b ∷ (a ++ (p ++ 10 ∷ [])))) ≡ open_rest
            (a ++ (p ++ 10 ∷ []))
        same true = refl
        same false = refl

        split : (c d : Bool) → list_any is_newline a ≡ d
            → (if c then [] ∷ (whole_lines a ++ (open_rest a ++ p) ∷ []) else onto_line b
            (whole_lines a ++ (open_rest a ++ p) ∷ [])) ≡
            (if c then [] ∷ whole_lines a else onto_line b (whole_lines a))
            ++ ((if c then open_rest a else (if list_any is_newline a then open_rest a else b ∷ a)) ++ p) ∷ []
        split true d f = refl
        split false true f =
            onto_some b (whole_lines a) ((open_rest a ++ p) ∷ []) (some_lines a f)
            ∙ ap (λ c. onto_line b (whole_lines a) ++ ((if c then open_rest a else b ∷ a) ++ p) ∷ []) (sym f)
        split false false f =
            ap (λ ls. onto_line b (ls ++ (open_rest a ++ p) ∷ [])) (open_text a f).lines
            ∙ ap (λ r. (b ∷ (r ++ p)) ∷ []) (open_text a f).rest
            ∙ ap (λ ls. onto_line b ls ++ ((b ∷ a) ++ p) ∷ []) (sym (open_text a f).lines)
            ∙ ap (λ c. onto_line b (whole_lines a) ++ ((if c then open_rest a else b ∷ a) ++ p) ∷ []) (sym f)

-- ---- what a piece adds

-- the first newline ends what stands before it
through_newline : (piece : List ℕ) → has_newline piece ≡ true
    → take (position_or_len is_newline piece + 1) piece ≡ line_part piece ++ 10 ∷ []
through_newline [] some = cc
through_newline (b ∷ bs) some = at (is_newline b) refl some (through_newline bs)
  where
    newline : is_newline b ≡ true → b ≡ 10
    newline e = grind (arith, nat_tests)

    at : (c : Bool) → is_newline b ≡ c → (c || list_any is_newline bs) ≡ true
        → (has_newline bs ≡ true → take (position_or_len is_newline bs + 1) bs ≡ line_part bs ++ 10 ∷ [])
        → take (position_or_len is_newline (b ∷ bs) + 1) (b ∷ bs) ≡ line_part (b ∷ bs) ++ 10 ∷ []
    at true e f h =
        ap (λ c. take (cond (not c) (1 + position_or_len is_newline bs) 0 + 1) (b ∷ bs)) e
        ∙ ap (λ x. x ∷ []) (newline e) ∙ ap (λ c. take (cond (not c) (1 + position_or_len is_newline bs) 0) (b ∷ bs)
        ++ 10 ∷ []) (sym e)
    at false e f h =
        ap (λ c. take (cond (not c) (1 + position_or_len is_newline bs) 0 + 1) (b ∷ bs)) e
        ∙ ap (λ n. take n (b ∷ bs)) (step (position_or_len is_newline bs))
        ∙ ap (λ r. b ∷ r) (h f)
        ∙ ap (λ n. take n (b ∷ bs) ++ 10 ∷ []) (sym (one_more (position_or_len is_newline bs)))
        ∙ ap (λ c. take (cond (not c) (1 + position_or_len is_newline bs) 0) (b ∷ bs) ++ 10 ∷ []) (sym e)
      where
        step : (n : ℕ) → (1 + n) + 1 ≡ suc (n + 1)
        step n = omega arith

part_is_open : (piece : List ℕ) → list_any is_newline (line_part piece) ≡ false
part_is_open [] = refl
part_is_open (b ∷ bs) = at (is_newline b) refl (part_is_open bs)
  where
    at : (c : Bool) → is_newline b ≡ c → list_any is_newline (line_part bs) ≡ false
        → list_any is_newline (line_part (b ∷ bs)) ≡ false
    at true e h = ap (λ c. list_any is_newline (take (cond (not c) (1 + position_or_len is_newline bs) 0) (b ∷ bs))) e
    at false e h =
        ap (λ c. list_any is_newline (take (cond (not c) (1 + position_or_len is_newline bs) 0) (b ∷ bs))) e
        ∙ ap (λ n. list_any is_newline (take n (b ∷ bs))) (one_more (position_or_len is_newline bs))
        ∙ ap (λ c. c || list_any is_newline (line_part bs)) e
        ∙ h

-- the part up to the first newline, or the whole piece, is what is used of it
pub cuts_lines : (piece input : List ℕ) (whole : Bool) (used : ℕ) → whole ≡ has_newline piece
    → used ≡ length (line_part piece) + (if whole then 1 else 0) → CutsLines whole used input piece
cuts_lines piece input true used w u =
    let taken : take used piece ≡ line_part piece ++ 10 ∷ [] =
    ap (λ n. take n piece) (u ∙ ap (λ n. n + 1) (length-line_part piece)) ∙ through_newline piece (sym w) in
    let here = ends_line input (line_part piece) (part_is_open piece) in
    (ap (λ t. whole_lines (input ++ t)) taken ∙ here.lines, ap (λ t. open_rest (input ++ t)) taken ∙ here.rest)
cuts_lines piece input false used w u =
    let taken : take used piece ≡ line_part piece =
    ap (λ n. take n piece) (u ∙ plus_none (length (line_part piece)) ∙ length-line_part piece) in
    let here = longer input (line_part piece) (part_is_open piece) in
    (ap (λ t. whole_lines (input ++ t)) taken ∙ here.lines, ap (λ t. open_rest (input ++ t)) taken ∙ here.rest)
  where
    plus_none : (n : ℕ) → n + 0 ≡ n
    plus_none n = omega arith
