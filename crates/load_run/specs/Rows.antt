-- The distances of a certificate, row by row. No public clause cites this module.
use Rattle.std.specs.Prelude.{◌≡◌, ℕ, ◌*◌, ◌≤◌, ◌==◌, if◌then◌else◌, length, Option, None}
use Rattle.std.specs.List.{sum_by}
use Rattle.std.specs.FinMap as map
use Rattle.apsp_model.specs.declared.TheConstants.{MOST_VERTICES, MOST_WEIGHT}
use Rattle.apsp_model.specs.Stated.{Stated, Entry}
use Rattle.certificate.specs.Table.{row_items, table_items}
use Rattle.load_run.specs.Report.{dist_of}

-- the entry of two different vertices
abbrev pub stated_cell : Stated → ℕ → ℕ → Option Entry
stated_cell s x y = if x == y then None else map.get s.entries (x, y)

-- of the pairs from x to the vertices below y
pub record RowDistancesAre (s : Stated) (x y pairs sum : ℕ) : Type 0 where
  pub count : pairs ≡ length (row_items (stated_cell s x) x y)
  pub total : sum ≡ sum_by dist_of (row_items (stated_cell s x) x y)
  pub few : pairs ≤ y
  pub most : sum ≤ y * (MOST_VERTICES * MOST_WEIGHT)

-- of the pairs from the vertices below x
pub record TableDistancesAre (s : Stated) (x pairs sum : ℕ) : Type 0 where
  pub count : pairs ≡ length (table_items (stated_cell s) s.graph.vertices x)
  pub total : sum ≡ sum_by dist_of (table_items (stated_cell s) s.graph.vertices x)
  pub few : pairs ≤ x * MOST_VERTICES
  pub most : sum ≤ x * (MOST_VERTICES * (MOST_VERTICES * MOST_WEIGHT))
