-- The tables of a version, as their text. No public clause cites this module.
use Rattle.std.specs.Prelude.{◌≡◌, ◌≢◌, ℕ, zero, suc, ◌<◌, List, [], ◌∷◌, ◌++◌, length, Option, None}
use Rattle.apsp_model.specs.Graph.{Graph, weight_at}
use Rattle.apsp_model.specs.Stated.{Entry}
use Rattle.certificate.specs.Table.{row_items, table_items}
use Rattle.certificate.specs.Grammar.{named, group_text}
use Rattle.certificate.specs.Giving.{StatedEntryIs}

-- the line of the items of a row with its newline, and nothing where there are none
abbrev pub row_line_text : {V : Type 0} → ((ℕ × ℕ) × V → List ℕ) → List ((ℕ × ℕ) × V) → List ℕ
row_line_text word [] = []
row_line_text word (e ∷ es) = group_text word (e ∷ es) ++ 10 ∷ []

-- the lines of the rows below u
abbrev pub rows_text : {V : Type 0} → ((ℕ × ℕ) × V → List ℕ) → (ℕ → ℕ → Option V) → ℕ → ℕ → List ℕ
rows_text word f n zero = []
rows_text word f n (suc u) = rows_text word f n u ++ row_line_text word (row_items (f u) u n)

-- a line with the number of all items, and the lines of the rows
abbrev pub table_text : {V : Type 0} → List ℕ → ((ℕ × ℕ) × V → List ℕ) → (ℕ → ℕ → Option V) → ℕ → List ℕ
table_text name word f n = (named name (length (table_items f n n)) ++ 10 ∷ []) ++ rows_text word f n n

-- the edges from u, and all edges, in order
abbrev pub row_edges : Graph → ℕ → List ((ℕ × ℕ) × ℕ)
row_edges g u = row_items (weight_at g u) u g.vertices

abbrev pub edge_items : Graph → List ((ℕ × ℕ) × ℕ)
edge_items g = table_items (weight_at g) g.vertices g.vertices

-- the table has the entries of the least walks of different vertices
pub record IsEntryTable (g : Graph) (f : ℕ → ℕ → Option Entry) : Type 0 where
  pub own : (x : ℕ) → f x x ≡ None
  pub entries : (x y : ℕ) → x < g.vertices → y < g.vertices → x ≢ y → StatedEntryIs g x y (f x y)

abbrev pub row_pairs : Graph → (ℕ → ℕ → Option Entry) → ℕ → List ((ℕ × ℕ) × Entry)
row_pairs g f x = row_items (f x) x g.vertices

abbrev pub pair_items : Graph → (ℕ → ℕ → Option Entry) → List ((ℕ × ℕ) × Entry)
pair_items g f = table_items f g.vertices g.vertices
