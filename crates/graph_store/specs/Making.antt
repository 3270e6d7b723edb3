-- When a graph or a star can be made.
use Rattle.std.specs.Prelude.{ℕ, ◌<◌, ◌≤◌, Result, Ok, Err}
use Rattle.std.specs.FinMap as map
use Rattle.apsp_model.specs.declared.TheConstants.{MOST_VERTICES}
use Rattle.apsp_model.specs.Star.{Star}
use Rattle.graph_store.specs.declared.graph.MakeError.{MakeError}
use Rattle.graph_store.specs.declared.graph.MakeError.TheVariants.{Vertices, Memory as Make_memory}
use Rattle.graph_store.specs.declared.star.StarError.{StarError}
use Rattle.graph_store.specs.declared.star.StarError.TheVariants.{Vertex, SelfEdge, Repeat, Weight, Memory as Star_memory}

-- a graph may have n vertices
pub record IsVertexCount (n : ℕ) : Type 0 where
  pub some : 1 ≤ n
  pub most : n ≤ MOST_VERTICES

-- the star of v that has no edges
abbrev pub no_star : ℕ → ℕ → Star
no_star n v = record { vertices = n; vertex = v; edges = map.empty }

-- `Vertices` comes exactly where a graph may not have n vertices
abbrev pub IsMakeAnswer : {A : Type 0} → ℕ → Result A MakeError → Type 0
IsMakeAnswer n (Ok g) = IsVertexCount n
IsMakeAnswer n (Err Vertices) = IsVertexCount n → ⊥
IsMakeAnswer n (Err Make_memory) = IsVertexCount n

-- `Vertex` comes exactly where v is not below n, and of the others `Memory` alone comes
abbrev pub IsStarAnswer : {A : Type 0} → ℕ → ℕ → Result A StarError → Type 0
IsStarAnswer n v (Ok s) = v < n
IsStarAnswer n v (Err Vertex) = n ≤ v
IsStarAnswer n v (Err SelfEdge) = ⊥
IsStarAnswer n v (Err Repeat) = ⊥
IsStarAnswer n v (Err Weight) = ⊥
IsStarAnswer n v (Err Star_memory) = v < n
