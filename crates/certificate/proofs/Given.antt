-- What a sink was given, give after give: for `write_certificate` and the calls under it.
use Rattle.std.specs.Prelude.{◌≡◌, ℕ, zero, suc, ◌+◌, ◌*◌, ◌<◌, ◌≤◌, Bool, is_some, if◌then◌else◌, List, [], ◌∷◌, ◌++◌, length, take, Option, Some, None, Result, Ok, Err, refl}
use Rattle.std.specs.Io.KnownBytes.{Appends}
use Rattle.std.proofs.Common.{sym, ◌∙◌, ap, subst, arith, append_assoc, append-nil, inl, inr, length-append}
use Rattle.std.proofs.Math.Seq.{take-append-add}
use Rattle.std.proofs.lemmas.Bool.{cases_eq}
use Rattle.std.proofs.lemmas.List.{take-append-le}
use Rattle.apsp_io.specs.Streams.{GrowsByPrefix}
use Rattle.apsp_io.specs.declared.sink.GiveError.{GiveError}
use Rattle.apsp_io.specs.declared.sink.GiveError.TheVariants as give
use Rattle.certificate.specs.Table.{item_list, row_items, table_items}
use Rattle.certificate.specs.Grammar.{joined, named}
use Rattle.certificate.specs.Giving.{GivesText}
use Rattle.certificate.specs.Writing.{row_line_text, rows_text, table_text}

-- a sink that was given nothing is as it was
pub appends_nothing : (old : Option (List ℕ)) → Appends old old []
appends_nothing None = tt
appends_nothing (Some xs) = sym (append-nil xs)

appends_both : (old mid new : Option (List ℕ)) (xs ys : List ℕ) → Appends old mid xs → Appends mid new ys
    → Appends old new (xs ++ ys)
appends_both None mid new xs ys h k = tt
appends_both (Some os) None new xs ys h k = absurd h
appends_both (Some os) (Some ms) None xs ys h k = absurd k
appends_both (Some os) (Some ms) (Some ns) xs ys h k = k ∙ ap (λ zs. zs ++ ys) h ∙ append_assoc os xs ys

-- a front behind what was given is a front of the whole
front_behind : (old mid new : Option (List ℕ)) (a b t : List ℕ) → Appends old mid a → GrowsByPrefix mid new b
    → GrowsByPrefix old new (a ++ (b ++ t))
front_behind old mid new a b t h k =
    let front : a ++ take k.0 b ≡ take (length a + k.0) (a ++ (b ++ t)) =
    ap (λ xs. a ++ xs) (sym (take-append-le k.0 b t k.1)) ∙ sym (take-append-add a (b ++ t) k.0) in (
      length a + k.0,
      omega (arith, k.1, length-append a (b ++ t), length-append b t),
      subst (Appends old new) front
          (appends_both old mid new a (take k.0 b) h k.2),
    )

-- so much was given, and faults did not fall
pub record Given (old now : Option (List ℕ)) (before after : ℕ) (text : List ℕ) : Type 0 where
  pub appends : Appends old now text
  pub later : before ≤ after

pub given_none : (old : Option (List ℕ)) (before : ℕ) → Given old old before before []
given_none old before = record { appends = appends_nothing old; later = omega arith }

pub given_more : (old mid new : Option (List ℕ)) (f g h : ℕ) (a b c : List ℕ) → Given old mid f g a → Appends mid new b
    → g ≤ h → c ≡ a ++ b → Given old new f h c
given_more old mid new f g h a b c x y z e =
    record {
      appends = subst (Appends old new) (sym e) (appends_both old mid new a b x.appends y);
      later = omega
          (arith, x.later, z);
    }

-- a give that failed behind what was given
pub given_stops : (e : GiveError) (old mid new : Option (List ℕ)) (f g h : ℕ) (a b c t : List ℕ) → Given old mid f g a
    → GivesText (Err e) mid new g h b → c ≡ a ++ (b ++ t) → GivesText (Err e) old new f h c
given_stops give.Failed old mid new f g h a b c t x y e =
    (subst (GrowsByPrefix old new) (sym e) (front_behind old mid new a b t x.appends y.0), omega (arith, x.later, y.1))
given_stops give.Memory old mid new f g h a b c t x y e =
    subst (GrowsByPrefix old new) (sym e) (front_behind old mid new a b t x.appends y)

-- the last give
pub given_last : (r : Result (Unit {0}) GiveError) (old mid new : Option (List ℕ)) (f g h : ℕ) (a b c : List ℕ)
    → Given old mid f g a → GivesText r mid new g h b → c ≡ a ++ b → GivesText r old new f h c
given_last (Ok u) old mid new f g h a b c x y e =
    subst (Appends old new) (sym e) (appends_both old mid new a b x.appends y)
given_last (Err d) old mid new f g h a b c x y e =
    given_stops d old mid new f g h a b c [] x y (e ∙ ap (λ xs. a ++ xs) (sym (append-nil b)))

-- ---- the text of rows

-- what comes behind a front
pub record IsFront (a c : List ℕ) : Type 0 where
  pub rest : List ℕ
  pub whole : c ≡ a ++ rest

front_more : (a c d : List ℕ) → IsFront a c → IsFront a (c ++ d)
front_more a c d h = record { rest = h.rest ++ d; whole = ap (λ xs. xs ++ d) h.whole ∙ append_assoc a h.rest d }

same_front : (a : List ℕ) → IsFront a a
same_front a = record { rest = []; whole = sym (append-nil a) }

one_up : (v : ℕ) → v + 1 ≡ suc v
one_up v = omega arith

module _ {V : Type 0} where
  pub row_more : (row : ℕ → Option V) (u v : ℕ) → row_items row u (v + 1) ≡ row_items row u v
      ++ item_list (u, v) (row v)
  row_more row u v = ap (row_items row u) (one_up v)

  pub table_more : (f : ℕ → ℕ → Option V) (n u : ℕ) → table_items f n (u + 1) ≡ table_items f n u ++ row_items (f u) u n
  table_more f n u = ap (table_items f n) (one_up u)

  module _ (word : (ℕ × ℕ) × V → List ℕ) where
    rows_more : (f : ℕ → ℕ → Option V) (n u : ℕ) → rows_text word f n (u + 1) ≡
        rows_text word f n u ++ row_line_text word (row_items (f u) u n)
    rows_more f n u = ap (rows_text word f n) (one_up u)

    rows_front : (f : ℕ → ℕ → Option V) (n k m : ℕ) → k ≤ m → IsFront (rows_text word f n k) (rows_text word f n m)
    rows_front f n k zero below =
        let none : k ≡ zero = omega arith in
        subst (λ j. IsFront (rows_text word f n j) (rows_text word f n zero)) (sym none)
        (same_front (rows_text word f n zero))
    rows_front f n k (suc m) below = elim (cases_eq k (suc m)) [
      | inl same ↦ subst (λ j. IsFront (rows_text word f n j) (rows_text word f n (suc m))) (sym same)
          (same_front (rows_text word f n (suc m)))
      | inr other ↦ front_more (rows_text word f n k) (rows_text word f n m) (row_line_text word (row_items (f m) m n))
          (rows_front f n k m (omega (arith, below, other)))
    ]

    module _ (old mid new : Option (List ℕ)) (f g h : ℕ) where
      -- a row more was given
      pub rows_go_on : (t : ℕ → ℕ → Option V) (n u : ℕ) → Given old mid f g (rows_text word t n u)
          → Appends mid new (row_line_text word (row_items (t u) u n)) → g ≤ h
          → Given old new f h (rows_text word t n (u + 1))
      rows_go_on t n u x y z = given_more old mid new f g h _ _ _ x y z (rows_more t n u)

      -- a row that fails leaves a front of the rows
      pub rows_stop : (e : GiveError) (t : ℕ → ℕ → Option V) (n u m : ℕ) → u < m
          → Given old mid f g (rows_text word t n u)
          → GivesText (Err e) mid new g h (row_line_text word (row_items (t u) u n))
          → GivesText (Err e) old new f h (rows_text word t n m)
      rows_stop e t n u m below x y =
          let front : IsFront (rows_text word t n (u + 1)) (rows_text word t n m) =
          rows_front t n (u + 1) m (omega (arith, below)) in
          given_stops e old mid new f g h _ _ _ front.rest x y
          (front.whole ∙ ap (λ xs. xs ++ front.rest) (rows_more t n u)
          ∙ append_assoc (rows_text word t n u) (row_line_text word (row_items (t u) u n)) front.rest)

  -- ---- how many items there are

  item_count : (q : ℕ × ℕ) (o : Option V) → length (item_list q o) ≡ (if is_some o then 1 else 0)
  item_count q None = refl
  item_count q (Some w) = refl

  pub row_count : (row : ℕ → Option V) (u v : ℕ) (b : Bool) → is_some (row v) ≡ b
      → length (row_items row u (v + 1)) ≡ length (row_items row u v) + (if b then 1 else 0)
  row_count row u v b e =
      ap length (row_more row u v) ∙ length-append (row_items row u v) (item_list (u, v) (row v))
      ∙ ap (λ k. length (row_items row u v) + k) (item_count (u, v) (row v) ∙ ap (λ c. if c then 1 else 0) e)

  pub row_short : (row : ℕ → Option V) (u v : ℕ) → length (row_items row u v) ≤ v
  row_short row u zero = omega arith
  row_short row u (suc v) =
      let one = at_most (row v) in omega (
        arith,
        length-append (row_items row u v) (item_list (u, v) (row v)),
        row_short
            row u v,
        one,
      )
    where
      at_most : (o : Option V) → length (item_list (u, v) o) ≤ 1
      at_most None = omega arith
      at_most (Some w) = omega arith

  pub table_count : (f : ℕ → ℕ → Option V) (n u : ℕ)
      → length (table_items f n (u + 1)) ≡ length (table_items f n u) + length (row_items (f u) u n)
  table_count f n u = ap length (table_more f n u) ∙ length-append (table_items f n u) (row_items (f u) u n)

  pub table_short : (f : ℕ → ℕ → Option V) (n u : ℕ) → length (table_items f n u) ≤ u * n
  table_short f n zero = omega arith
  table_short f n (suc u) =
      omega (arith, length-append (table_items f n u) (row_items (f u) u n), table_short f n u, row_short (f u) u n)

-- ---- whole parts of a text

-- a line with a number, where the number is another name of it
pub numbered : (r : Result (Unit {0}) GiveError) (old new : Option (List ℕ)) (f h : ℕ) (word : List ℕ) (k n : ℕ) → k ≡ n
    → GivesText r old new f h (named word k ++ 10 ∷ []) → GivesText r old new f h (named word n ++ 10 ∷ [])
numbered r old new f h word k n e x = subst (λ j. GivesText r old new f h (named word j ++ 10 ∷ [])) e x

module _ (a b c : List ℕ) where
  -- the head fails in its first line
  pub head_stops_first : (e : GiveError) (old new : Option (List ℕ)) (f h : ℕ)
      → GivesText (Err e) old new f h (a ++ 10 ∷ []) → GivesText (Err e) old new f h (joined (a ∷ b ∷ c ∷ []))
  head_stops_first e old new f h x =
      given_stops e old old new f f h [] (a ++ 10 ∷ []) (joined (a ∷ b ∷ c ∷ [])) (joined (b ∷ c ∷ []))
      (given_none old f) x refl

  -- .. or in its second
  pub head_stops_second : (e : GiveError) (old mid new : Option (List ℕ)) (f g h : ℕ) → Appends old mid (a ++ 10 ∷ [])
      → f ≤ g → GivesText (Err e) mid new g h (b ++ 10 ∷ []) → GivesText (Err e) old new f h (joined (a ∷ b ∷ c ∷ []))
  head_stops_second e old mid new f g h x l y =
      given_stops e old mid new f g h (a ++ 10 ∷ []) (b ++ 10 ∷ []) (joined (a ∷ b ∷ c ∷ [])) (joined (c ∷ []))
      (record { appends = x; later = l }) y refl

  -- .. or is given up to what its third line gives
  pub head_last : (r : Result (Unit {0}) GiveError) (old first second new : Option (List ℕ)) (f g i h : ℕ)
      → Appends old first (a ++ 10 ∷ []) → f ≤ g → Appends first second (b ++ 10 ∷ []) → g ≤ i
      → GivesText r second new i h (c ++ 10 ∷ []) → GivesText r old new f h (joined (a ∷ b ∷ c ∷ []))
  head_last r old first second new f g i h x l y m z =
      given_last r old second new f i h ((a ++ 10 ∷ []) ++ (b ++ 10 ∷ [])) (c ++ 10 ∷ []) (joined (a ∷ b ∷ c ∷ []))
      (given_more old first second f g i (a ++ 10 ∷ []) (b ++ 10 ∷ []) ((a ++ 10 ∷ []) ++ (b ++ 10 ∷ []))
      (record { appends = x; later = l }) y m refl)
      z
      (ap (λ r. (a ++ 10 ∷ []) ++ ((b ++ 10 ∷ []) ++ r)) (append-nil (c ++ 10 ∷ []))
      ∙ sym (append_assoc (a ++ 10 ∷ []) (b ++ 10 ∷ []) (c ++ 10 ∷ [])))

module _ {V : Type 0} (name : List ℕ) (word : (ℕ × ℕ) × V → List ℕ) (t : ℕ → ℕ → Option V) (n k : ℕ)
    (count : k ≡ length (table_items t n n)) where
  -- a table fails in the line of its count
  pub count_stops : (e : GiveError) (old new : Option (List ℕ)) (f h : ℕ)
      → GivesText (Err e) old new f h (named name k ++ 10 ∷ [])
      → GivesText (Err e) old new f h (table_text name word t n)
  count_stops e old new f h x =
      given_stops e old old new f f h [] (named name (length (table_items t n n)) ++ 10 ∷ []) (table_text name word t n)
      (rows_text word t n n) (given_none old f)
      (numbered (Err e) old new f h name k (length (table_items t n n)) count x) refl

  -- .. or is given up to what its rows give
  pub rows_last : (r : Result (Unit {0}) GiveError) (old mid new : Option (List ℕ)) (f g h : ℕ)
      → Appends old mid (named name k ++ 10 ∷ []) → f ≤ g → GivesText r mid new g h (rows_text word t n n)
      → GivesText r old new f h (table_text name word t n)
  rows_last r old mid new f g h x l y =
      given_last r old mid new f g h (named name (length (table_items t n n)) ++ 10 ∷ []) (rows_text word t n n)
      (table_text name word t n) (record
      { appends = subst (λ j. Appends old mid (named name j ++ 10 ∷ [])) count x; later = l }) y refl

-- four parts, one behind the other
module _ (a b c d whole : List ℕ) (is : whole ≡ a ++ (b ++ (c ++ d))) where
  -- the whole fails in its first part
  pub stops_in_first : (e : GiveError) (old new : Option (List ℕ)) (f h : ℕ) → GivesText (Err e) old new f h a
      → GivesText (Err e) old new f h whole
  stops_in_first e old new f h x = given_stops e old old new f f h [] a whole (b ++ (c ++ d)) (given_none old f) x is

  -- .. or in its second
  pub stops_in_second : (e : GiveError) (old mid new : Option (List ℕ)) (f g h : ℕ) → Appends old mid a → f ≤ g
      → GivesText (Err e) mid new g h b → GivesText (Err e) old new f h whole
  stops_in_second e old mid new f g h x l y =
      given_stops e old mid new f g h a b whole (c ++ d) (record { appends = x; later = l }) y is

  two : (old first second : Option (List ℕ)) (f g i : ℕ) → Appends old first a → f ≤ g → Appends first second b → g ≤ i
      → Given old second f i (a ++ b)
  two old first second f g i x l y m =
      given_more old first second f g i a b (a ++ b) (record { appends = x; later = l }) y m refl

  -- .. or in its third
  pub stops_in_third : (e : GiveError) (old first second new : Option (List ℕ)) (f g i h : ℕ) → Appends old first a
      → f ≤ g → Appends first second b → g ≤ i → GivesText (Err e) second new i h c
      → GivesText (Err e) old new f h whole
  stops_in_third e old first second new f g i h x l y m z =
      given_stops e old second new f i h (a ++ b) c whole d (two old first second f g i x l y m) z
      (is ∙ sym (append_assoc a b (c ++ d)))

  -- .. or is given up to what its last part gives
  pub last_part : (r : Result (Unit {0}) GiveError) (old first second third new : Option (List ℕ)) (f g i j h : ℕ)
      → Appends old first a → f ≤ g → Appends first second b → g ≤ i → Appends second third c → i ≤ j
      → GivesText r third new j h d → GivesText r old new f h whole
  last_part r old first second third new f g i j h x l y m z n w =
      given_last r old third new f j h ((a ++ b) ++ c) d whole
      (given_more old second third f i j (a ++ b) c ((a ++ b) ++ c) (two old first second f g i x l y m) z n refl) w
      (is ∙ sym (append_assoc a b (c ++ d)) ∙ sym (append_assoc (a ++ b) c d))
