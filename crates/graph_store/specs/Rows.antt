-- What rows of cells say: row u has the weights of the edges from u, one cell for each vertex.
-- No public clause cites this module.
use Rattle.std.specs.Prelude.{◌≡◌, ℕ, ◌+◌, ◌*◌, ◌<◌, ◌⊎◌, ◌==◌, ◌&&◌, nat_lt, if◌then◌else◌, List, length, slice_index_or, Option, None}
use Rattle.apsp_model.specs.Graph.{Graph, IsGraph}
use Rattle.apsp_model.specs.Star.{Star, IsStar}
use Rattle.graph_store.specs.Table.{map_of}

abbrev pub cell_at : List (Option ℕ) → ℕ → Option ℕ
cell_at cells k = slice_index_or cells k None

abbrev pub graph_of_rows : ℕ → List (Option ℕ) → Graph
graph_of_rows n cells = record { vertices = n; edges = map_of n (λ u v. cell_at cells (u * n + v)) }

-- the star of v, from the row of its out edges and that of its in edges
abbrev pub star_of_rows : ℕ → ℕ → List (Option ℕ) → List (Option ℕ) → Star
star_of_rows n v out into =
    record {
      vertices = n;
      vertex = v;
      edges = map_of n (λ a b. if b == v then cell_at into a
          else (if a == v then cell_at out b else None));
    }

pub record IsGraphRows (n : ℕ) (cells : List (Option ℕ)) : Type 0 where
  pub size : length cells ≡ n * n
  pub graph : IsGraph (graph_of_rows n cells)

pub record IsStarRows (n v : ℕ) (out into : List (Option ℕ)) : Type 0 where
  pub out_size : length out ≡ n
  pub into_size : length into ≡ n
  pub no_loop : cell_at out v ≡ None
  pub star : IsStar (star_of_rows n v out into)

-- row v is that row, and all other rows are as they were
pub record HasRow (n v : ℕ) (row old new : List (Option ℕ)) : Type 0 where
  pub size : length new ≡ length old
  pub cells : (a b : ℕ) → a < n → b < n → cell_at new (a * n + b)
      ≡ (if a == v then cell_at row b else cell_at old (a * n + b))

-- the first cells of column v are those of the column, and all others are as they were
pub record HasColumn (n v count : ℕ) (column old new : List (Option ℕ)) : Type 0 where
  pub size : length new ≡ length old
  pub cells : (a b : ℕ) → a < n → b < n → cell_at new (a * n + b)
      ≡ (if b == v && nat_lt a count then cell_at column a else cell_at old (a * n + b))

-- row v was written, and then column v
pub record HasStar (n v : ℕ) (row column old new : List (Option ℕ)) : Type 0 where
  pub between : List (Option ℕ)
  pub first : HasRow n v row old between
  pub second : HasColumn n v n column between new

-- the first cells of the list are those of column v
pub record IsColumn (n v count : ℕ) (rows column : List (Option ℕ)) : Type 0 where
  pub size : length column ≡ n
  pub cells : (a : ℕ) → a < count → cell_at column a ≡ cell_at rows (a * n + v)

-- the cell of u and v in a table of rows of n cells, and none beyond it
abbrev pub wide_cell : ℕ → List (Option ℕ) → ℕ → ℕ → Option ℕ
wide_cell n rows a b = if nat_lt a n && nat_lt b n then cell_at rows (a * n + b) else None

-- in a table of rows of m cells the cells before that of u and v are those of the rows of n cells, and none beyond them
pub record HasRowsUpto (m n u v : ℕ) (rows wide : List (Option ℕ)) : Type 0 where
  pub size : length wide ≡ m * m
  pub cells : (a b : ℕ) → a < m → b < m → (a < u) ⊎ ((a ≡ u) × (b < v))
      → cell_at wide (a * m + b) ≡ wide_cell n rows a b
