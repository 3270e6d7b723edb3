-- The joins that become local where paths are promoted at once.
use Rattle.std.specs.Prelude.{ℕ, ◌≤◌, ◌⊎◌, List, length}
use Rattle.apsp_model.specs.Graph.{Graph}
use Rattle.apsp_model.specs.Walk.{IsWalk, IsSimple}
use Rattle.apsp_model.specs.Part.{left_part, right_part}

-- what is historical once the paths W are promoted where H held
abbrev pub Then : (List ℕ → Type 0) → (List ℕ → Type 0) → List ℕ → Type 0
Then H W p = H p ⊎ W p

-- a simple walk whose two lists that lack an end are historical then, and not both before
pub record IsJoin (g : Graph) (H W : List ℕ → Type 0) (p : List ℕ) : Type 0 where
  pub long : 3 ≤ length p
  pub simple : IsSimple p
  pub walk : IsWalk g p
  pub ends : (W (left_part p) × Then H W (right_part p)) ⊎ (H (left_part p) × W (right_part p))
