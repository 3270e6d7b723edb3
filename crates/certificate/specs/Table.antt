-- The map of a table: what it says at each pair of numbers below n, row by row. No public clause cites this module.
use Rattle.std.specs.Prelude.{ℕ, zero, suc, List, [], ◌∷◌, ◌++◌, slice_index_or, Option, Some, None}
use Rattle.std.specs.FinMap as map
use Rattle.apsp_model.specs.Graph.{pair_cmp}
use Rattle.certificate.specs.Groups.{insert_all}

abbrev pub item_list : {V : Type 0} → ℕ × ℕ → Option V → List ((ℕ × ℕ) × V)
item_list q None = []
item_list q (Some w) = (q, w) ∷ []

-- what row u says below v
abbrev pub row_items : {V : Type 0} → (ℕ → Option V) → ℕ → ℕ → List ((ℕ × ℕ) × V)
row_items row u zero = []
row_items row u (suc v) = row_items row u v ++ item_list (u, v) (row v)

-- what the rows below u say below n
abbrev pub table_items : {V : Type 0} → (ℕ → ℕ → Option V) → ℕ → ℕ → List ((ℕ × ℕ) × V)
table_items f n zero = []
table_items f n (suc u) = table_items f n u ++ row_items (f u) u n

unfoldable pub table_map : {V : Type 0} → ℕ → (ℕ → ℕ → Option V) → map.FinMap pair_cmp V
table_map n f = insert_all map.empty (table_items f n n)

abbrev pub table_cell : {A : Type 0} → List (Option A) → ℕ → Option A
table_cell cells k = slice_index_or cells k None
