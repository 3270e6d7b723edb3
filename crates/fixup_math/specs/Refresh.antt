-- What a cleaning step does to the kept paths in place: its graph does not change, so nothing has to settle.
use Rattle.std.specs.Prelude.{◌≡◌, ℕ, ◌⊎◌, ◌↔◌, List, length, Contains}
use Rattle.std.specs.declared.cmp.Ordering.TheVariants.{Less}
use Rattle.apsp_model.specs.Walk.{first, last}
use Rattle.apsp_model.specs.Order.{path_cmp}
use Rattle.apsp_model.specs.Part.{left_part, right_part}
use Rattle.apsp_model.specs.Local.{Avoids}
use Rattle.apsp_model.specs.Kept.{IsWithEdge}
use Rattle.apsp_model.specs.Paths.{KeptPath, IsKeptIn, IsHistoricalIn, HasBirthIn}

-- a kept path that no kept path with its ends is below
pub record IsLeastPathIn (paths : List KeptPath) (k : KeptPath) : Type 0 where
  pub kept : Contains paths k
  pub first : (j : KeptPath) → Contains paths j → first j.list ≡ first k.list → last j.list ≡ last k.list
      → path_cmp j.weight j.list k.weight k.list ≡ Less → ⊥

-- the list is that of a least kept path
abbrev pub IsLeastListIn : List KeptPath → List ℕ → Type 0
IsLeastListIn paths p = (k : KeptPath) × IsLeastPathIn paths k × (k.list ≡ p)

-- the parts of the least kept path of a pair are the least of their pairs
pub record HaveLeasts (paths : List KeptPath) : Type 0 where
  pub left : (p : List ℕ) → IsLeastListIn paths p → IsWithEdge p → IsLeastListIn paths (left_part p)
  pub right : (p : List ℕ) → IsLeastListIn paths p → IsWithEdge p → IsLeastListIn paths (right_part p)

-- what a cleaning at v leaves historical: what avoids v, and what is the least of its pair
abbrev pub StaysHistorical : ℕ → List KeptPath → List ℕ → Type 0
StaysHistorical v paths p = IsHistoricalIn paths p × (Avoids p v ⊎ IsLeastListIn paths p)

-- what it leaves kept: what is kept, and both of whose parts stay historical
abbrev pub StaysKept : ℕ → List KeptPath → List ℕ → Type 0
StaysKept v paths p =
    IsKeptIn paths p × (IsWithEdge p → StaysHistorical v paths (left_part p) × StaysHistorical v paths (right_part p))

-- the birth of what stays: its own where it avoids v or is a single vertex, and else the step's number
abbrev pub RefreshedBirth : ℕ → ℕ → List KeptPath → List ℕ → ℕ → Type 0
RefreshedBirth v birth paths p b =
    ((Avoids p v ⊎ (length p ≡ 1)) × HasBirthIn paths p b) ⊎ (IsWithEdge p × Contains p v × (b ≡ birth))

-- after a cleaning at v of such a number, each path with the weight that it had
pub record IsRefreshed (v birth : ℕ) (before after : List KeptPath) : Type 0 where
  pub historical : (p : List ℕ) → IsHistoricalIn after p ↔ StaysHistorical v before p
  pub kept : (p : List ℕ) → IsKeptIn after p ↔ StaysKept v before p
  pub births : (p : List ℕ) (b : ℕ) → HasBirthIn after p b ↔ (StaysKept v before p × RefreshedBirth v birth before p b)
  pub weights : (k : KeptPath) → Contains after k
      → (j : KeptPath) × Contains before j × (j.list ≡ k.list) × (j.weight ≡ k.weight)
