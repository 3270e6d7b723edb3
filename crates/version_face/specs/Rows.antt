-- The tables of a version, row by row: the cell of x and y stands at x * n + y.
use Rattle.std.specs.Prelude.{◌≡◌, ℕ, ◌+◌, ◌*◌, ◌<◌, List, length, slice_index, Option, Some, None}
use Rattle.apsp_model.specs.Graph.{Graph, IsGraph}
use Rattle.version_face.specs.declared.TheConstants.{NO_DISTANCE, NO_HOPS, NO_NEXT}
use Rattle.version_face.specs.declared.Entry.{Entry}
use Rattle.version_face.specs.Entries.{CellIs}

-- the first k cells are those of the graph's least walks
pub record AreCells (g : Graph) (k : ℕ) (dist hops next : List ℕ) : Type 0 where
  pub dist_size : length dist ≡ g.vertices * g.vertices
  pub hops_size : length hops ≡ g.vertices * g.vertices
  pub next_size : length next ≡ g.vertices * g.vertices
  pub cells : (x y : ℕ) → y < g.vertices → x * g.vertices + y < k →
      CellIs g x y (slice_index dist (x * g.vertices + y)) (slice_index hops (x * g.vertices + y))
      (slice_index next (x * g.vertices + y))

-- all cells are those of the graph's least walks
pub record IsVersion (g : Graph) (dist hops next : List ℕ) : Type 0 where
  pub graph : IsGraph g
  pub cells : AreCells g (g.vertices * g.vertices) dist hops next

-- what the cells of an entry are
abbrev pub dist_cell : Option Entry → ℕ
dist_cell None = NO_DISTANCE
dist_cell (Some e) = e.dist

abbrev pub hops_cell : Option Entry → ℕ
hops_cell None = NO_HOPS
hops_cell (Some e) = e.hops

abbrev pub next_cell : Option Entry → ℕ
next_cell None = NO_NEXT
next_cell (Some e) = e.next
