-- A list of the kept paths through a vertex.
use Rattle.std.specs.Prelude.{ℕ, List}

-- a vertex, and ids of paths through it
pub record Victims : Type 0 where
  pub vertex : ℕ
  pub ids : List ℕ
