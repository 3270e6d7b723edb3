-- The map of a table: what it says at each pair of numbers below n.
use Rattle.std.specs.Prelude.{ℕ, zero, suc, List, [], ◌∷◌, ◌++◌, Option, Some, None}
use Rattle.std.specs.FinMap as map
use Rattle.apsp_model.specs.Graph.{pair_cmp}

abbrev pub with_entry : ℕ × ℕ → Option ℕ → List ((ℕ × ℕ) × ℕ) → List ((ℕ × ℕ) × ℕ)
with_entry q None es = es
with_entry q (Some w) es = (q, w) ∷ es

-- what row u says below v
abbrev pub row_entries : (ℕ → Option ℕ) → ℕ → ℕ → List ((ℕ × ℕ) × ℕ)
row_entries row u zero = []
row_entries row u (suc v) = with_entry (u, v) (row v) (row_entries row u v)

-- what the rows below u say below n
abbrev pub rows_entries : (ℕ → ℕ → Option ℕ) → ℕ → ℕ → List ((ℕ × ℕ) × ℕ)
rows_entries f n zero = []
rows_entries f n (suc u) = row_entries (f u) u n ++ rows_entries f n u

unfoldable pub map_of : ℕ → (ℕ → ℕ → Option ℕ) → map.FinMap pair_cmp ℕ
map_of n f = map.from_entries (rows_entries f n n)
