-- The lines of a table row by row, and the words of a row: for what is written, and for `Versions`.
use Rattle.std.specs.Prelude.{◌≡◌, ℕ, zero, suc, ◌+◌, ◌<◌, true, List, [], ◌∷◌, ◌++◌, map as each, length, Option, Some, None, refl}
use Rattle.std.specs.Fmt.{decimal}
use Rattle.std.proofs.Common.{◌∙◌, ap, arith, append-nil}
use Rattle.std.proofs.lemmas.Bool.Decides.{nat_tests}
use Rattle.std.proofs.lemmas.Grind.{flat_map-append}
use Rattle.std.proofs.lemmas.List.{map-append}
use Rattle.certificate.specs.Groups.{groups_of}
use Rattle.certificate.specs.Grammar.{words_text, group_text, joined}
use Rattle.certificate.specs.Table.{item_list, row_items, table_items}
use Rattle.certificate.specs.Reading.{rises}
use Rattle.certificate.specs.Writing.{row_line_text, rows_text}
use Rattle.certificate.proofs.Maps.{EachOf, each_weaker}
use Rattle.certificate.proofs.Tables.{table_rising}
use Rattle.certificate.proofs.Parting.{each_both, group_if_some, parted_last}
use Rattle.certificate.proofs.Texts.{joined_append}

below_if : (a b u : ℕ) → rises (Some (a, b)) (u, 0) ≡ true → a < u
below_if a b u h = grind (arith, nat_tests)

one_up : (v : ℕ) → v + 1 ≡ suc v
one_up v = omega arith

module _ {V : Type 0} where
  item_from : (u v : ℕ) (o : Option V) → EachOf (λ e. e.0.0 ≡ u) (item_list (u, v) o)
  item_from u v None = tt
  item_from u v (Some w) = (refl, tt)

  -- the items of a row begin with its number
  pub row_from : (row : ℕ → Option V) (u v : ℕ) → EachOf (λ e. e.0.0 ≡ u) (row_items row u v)
  row_from row u zero = tt
  row_from row u (suc v) =
      each_both (λ e. e.0.0 ≡ u) (row_items row u v) (item_list (u, v) (row v)) (row_from row u v)
      (item_from u v (row v))

  module _ (word : (ℕ × ℕ) × V → List ℕ) where
    -- the words of a row with one cell more
    pub words_more : (row : ℕ → Option V) (u v : ℕ) → words_text word (row_items row u (v + 1)) ≡
        words_text word (row_items row u v) ++ words_text word (item_list (u, v) (row v))
    words_more row u v =
        ap (λ k. words_text word (row_items row u k)) (one_up v)
        ∙ flat_map-append (λ e. 32 ∷ word e) (row_items row u v) (item_list (u, v) (row v))

    line_of : (u : ℕ) (es : List ((ℕ × ℕ) × V)) → EachOf (λ e. e.0.0 ≡ u) es → (length es ≡ 0 → ⊥)
        → row_line_text word es ≡ (decimal u ++ words_text word es) ++ 10 ∷ []
    line_of u [] from some = absurd (some refl)
    line_of u (e ∷ es) from some = ap (λ k. (decimal k ++ words_text word (e ∷ es)) ++ 10 ∷ []) from.0

    -- a row with items has a line: its number and its words
    pub row_line : (row : ℕ → Option V) (u v : ℕ) → (length (row_items row u v) ≡ 0 → ⊥)
        → row_line_text word (row_items row u v) ≡ (decimal u ++ words_text word (row_items row u v)) ++ 10 ∷ []
    row_line row u v some = line_of u (row_items row u v) (row_from row u v) some

    -- .. and one without items has none
    pub row_none : (es : List ((ℕ × ℕ) × V)) → length es ≡ 0 → row_line_text word es ≡ []
    row_none [] none = refl
    row_none (e ∷ es) none = absurd (omega (arith, none))

    if_some : (es : List ((ℕ × ℕ) × V)) → joined (each (group_text word) (group_if_some es)) ≡ row_line_text word es
    if_some [] = refl
    if_some (e ∷ es) = append-nil (group_text word (e ∷ es) ++ 10 ∷ [])

    -- the lines of the rows are those of the groups of all items
    pub rows_are : (f : ℕ → ℕ → Option V) (n u : ℕ)
        → joined (each (group_text word) (groups_of (table_items f n u))) ≡ rows_text word f n u
    rows_are f n zero = refl
    rows_are f n (suc u) =
        let a : List ((ℕ × ℕ) × V) = table_items f n u in
        let b : List ((ℕ × ℕ) × V) = row_items (f u) u n in
        let low : EachOf (λ e. e.0.0 < u) a =
        each_weaker (λ e. rises (Some e.0) (u, 0) ≡ true) (λ e. e.0.0 < u) a (λ e h. below_if e.0.0 e.0.1 u h)
        (table_rising f n u).under in
        ap (λ gs. joined (each (group_text word) gs)) (parted_last u a b low (row_from (f u) u n))
        ∙ ap joined (map-append (group_text word) (groups_of a) (group_if_some b))
        ∙ joined_append (each (group_text word) (groups_of a)) (each (group_text word) (group_if_some b))
        ∙ ap (λ t. t ++ joined (each (group_text word) (group_if_some b))) (rows_are f n u)
        ∙ ap (λ t. rows_text word f n u ++ t) (if_some b)
