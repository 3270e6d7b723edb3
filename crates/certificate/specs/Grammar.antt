-- The text of a certificate, in two layouts: one line behind the other, for the number, the vertices, the edges in
-- order, the pairs in order, and the end. Text 1 has a line for each edge and each pair. Text 2 has a line for each
-- vertex with an edge from it, and for each vertex with a walk to another one.
use Rattle.std.specs.Prelude.{◌≡◌, ℕ, ◌<◌, ◌^◌, List, [], ◌∷◌, ◌++◌, map as each, codes, Option, Some}
use Rattle.std.specs.Option.{option_map}
use Rattle.std.specs.List.{flat_map}
use Rattle.std.specs.Fmt.{decimal}
use Rattle.std.specs.FinMap as map
use Rattle.apsp_model.specs.Stated.{Stated, Entry, IsInRange}
use Rattle.certificate.specs.declared.TheConstants.{MOST_DIGITS}
use Rattle.certificate.specs.declared.lines.Layout.{Layout}
use Rattle.certificate.specs.declared.lines.Layout.TheVariants.{ByItem, ByVertex}
use Rattle.certificate.specs.Cuts.{cut}
use Rattle.certificate.specs.Groups.{groups_of}

-- numbers with one such byte between each two
abbrev pub parted : ℕ → List ℕ → List ℕ
parted c [] = []
parted c (k ∷ []) = decimal k
parted c (k ∷ l ∷ ks) = decimal k ++ c ∷ parted c (l ∷ ks)

-- a word and a number
abbrev pub named : List ℕ → ℕ → List ℕ
named word k = word ++ 32 ∷ decimal k

-- the line of an item: numbers with spaces between them
abbrev pub edge_line_text : (ℕ × ℕ) × ℕ → List ℕ
edge_line_text e = parted 32 (e.0.0 ∷ e.0.1 ∷ e.1 ∷ [])

abbrev pub pair_line_text : (ℕ × ℕ) × Entry → List ℕ
pair_line_text e = parted 32 (e.0.0 ∷ e.0.1 ∷ e.1.dist ∷ e.1.hops ∷ e.1.next ∷ [])

-- the word of an item behind its first number: numbers with colons between them
abbrev pub edge_word_text : (ℕ × ℕ) × ℕ → List ℕ
edge_word_text e = parted 58 (e.0.1 ∷ e.1 ∷ [])

abbrev pub pair_word_text : (ℕ × ℕ) × Entry → List ℕ
pair_word_text e = parted 58 (e.0.1 ∷ e.1.dist ∷ e.1.hops ∷ e.1.next ∷ [])

-- items with one first number in one line: that number, and the word of each with a space before it
abbrev pub words_text : {V : Type 0} → ((ℕ × ℕ) × V → List ℕ) → List ((ℕ × ℕ) × V) → List ℕ
words_text word items = flat_map (λ e. 32 ∷ word e) items

abbrev pub group_text : {V : Type 0} → ((ℕ × ℕ) × V → List ℕ) → List ((ℕ × ℕ) × V) → List ℕ
group_text word [] = []
group_text word (e ∷ es) = decimal e.0.0 ++ words_text word (e ∷ es)

-- the lines of items, where the line of one and the word of one are given
abbrev pub lines_in : {V : Type 0} → Layout → ((ℕ × ℕ) × V → List ℕ) → ((ℕ × ℕ) × V → List ℕ) → List ((ℕ × ℕ) × V)
    → List (List ℕ)
lines_in ByItem line word items = each line items
lines_in ByVertex line word items = each (group_text word) (groups_of items)

-- the first line
abbrev pub title : Layout → List ℕ
title ByItem = codes "apsp certificate 1"
title ByVertex = codes "apsp certificate 2"

abbrev pub head_lines : Layout → Stated → List (List ℕ)
head_lines layout s = title layout ∷ named (codes "number") s.number ∷ named (codes "vertices") s.graph.vertices ∷ []

abbrev pub edge_lines : Layout → Stated → List (List ℕ)
edge_lines layout s =
    named (codes "edges") (map.len s.graph.edges)
    ∷ lines_in layout edge_line_text edge_word_text (map.entries s.graph.edges)

abbrev pub pair_lines : Layout → Stated → List (List ℕ)
pair_lines layout s =
    named (codes "pairs") (map.len s.entries) ∷ lines_in layout pair_line_text pair_word_text (map.entries s.entries)

abbrev pub certificate_lines : Layout → Stated → List (List ℕ)
certificate_lines layout s = head_lines layout s ++ (edge_lines layout s ++ (pair_lines layout s ++ codes "end" ∷ []))

-- each line with a newline behind it
abbrev pub joined : List (List ℕ) → List ℕ
joined lines = flat_map (λ line. line ++ 10 ∷ []) lines

abbrev pub text_in : Layout → Stated → List ℕ
text_in layout s = joined (certificate_lines layout s)

-- the text that is written: text 2
abbrev pub text_of : Stated → List ℕ
text_of s = text_in ByVertex s

-- all numbers are within their ranges, and have at most so many digits
pub record IsWritable (s : Stated) : Type 0 where
  pub range : IsInRange s
  pub number : s.number < 10 ^ MOST_DIGITS
  pub dists : (x y : ℕ) (e : Entry) → map.get s.entries (x, y) ≡ Some e → e.dist < 10 ^ MOST_DIGITS

-- the bytes are the certificate of the stated value, in one of the two layouts
pub record IsCertText (s : Stated) (bytes : List ℕ) : Type 0 where
  pub layout : Layout
  pub writable : IsWritable s
  pub text : bytes ≡ text_in layout s

-- what stands before the first newline, if there is one
abbrev pub first_line : List ℕ → Option (List ℕ)
first_line bytes = option_map (λ p. p.0) (cut 10 bytes)
