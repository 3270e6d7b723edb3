-- What contracts see of the times of the updates. No public clause cites this module.
use Rattle.std.specs.Prelude.{ℕ, List, Option}

-- how many vertices there are, the vertex of each update in order of time, none for a grow, and for how
-- many more there is room
pub record Times : Type 0 where
  pub size : ℕ
  pub vertices : List (Option ℕ)
  pub room : ℕ
