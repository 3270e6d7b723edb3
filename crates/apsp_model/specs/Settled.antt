-- What a step leaves of the kept paths: first what cleanup leaves, then what settling makes of that.
use Rattle.std.specs.Prelude.{◌≡◌, ℕ, ◌⊎◌, ◌↔◌, List, length, Contains}
use Rattle.std.specs.FinMap as map
use Rattle.apsp_model.specs.Graph.{Graph}
use Rattle.apsp_model.specs.Walk.{weight_of}
use Rattle.apsp_model.specs.Part.{IsClosedUnderParts}
use Rattle.apsp_model.specs.Least.{IsLeastWalk}
use Rattle.apsp_model.specs.Local.{IsVertex, Avoids, IsLocal}
use Rattle.apsp_model.specs.Star.{star_of}
use Rattle.apsp_model.specs.Counts.{CountIs}
use Rattle.apsp_model.specs.Paths.{KeptPath, IsKeptIn, IsHistoricalIn, HasBirthIn}

-- exactly the kept paths that avoid v and the single vertices are left, each with its weight, mark and birth
abbrev pub IsCleaned : ℕ → List KeptPath → List KeptPath → Type 0
IsCleaned v before after =
    (k : KeptPath) → Contains after k ↔ (Contains before k × (Avoids k.list v ⊎ (length k.list ≡ 1)))

-- the graph without its edges at v
abbrev pub without_star : Graph → ℕ → Graph
without_star g v = star_of g (record { vertices = g.vertices; vertex = v; edges = map.empty })

-- the kept paths have their weights in the graph
abbrev pub HaveWeights : Graph → List KeptPath → Type 0
HaveWeights g paths = (k : KeptPath) → Contains paths k → k.weight ≡ weight_of g k.list

-- exactly the local lists of the graph are kept, each with its weight, and the historical ones are closed under parts
pub record AreLocal (g : Graph) (paths : List KeptPath) : Type 0 where
  pub closed : IsClosedUnderParts (IsHistoricalIn paths)
  pub kept : (p : List ℕ) → IsKeptIn paths p ↔ IsLocal g (IsHistoricalIn paths) p
  pub weights : HaveWeights g paths

-- what settling starts from: the kept paths are the local ones of the graph without its edges at v
abbrev pub IsReady : Graph → ℕ → List KeptPath → Type 0
IsReady g v paths = AreLocal (without_star g v) paths

-- what settling leaves: all least walks are historical beside what was, and exactly what is local then is kept;
-- added paths have the given birth and all others keep theirs; so many were added, and so many newly marked
pub record IsSettled (g : Graph) (birth : ℕ) (before after : List KeptPath) (formed promoted : ℕ) : Type 0 where
  pub historical : (p : List ℕ) → IsHistoricalIn after p ↔ (IsHistoricalIn before p ⊎ IsLeastWalk g p)
  pub kept : (p : List ℕ) → IsKeptIn after p ↔ IsLocal g (IsHistoricalIn after) p
  pub weights : HaveWeights g after
  pub births : (p : List ℕ) (b : ℕ) → HasBirthIn after p b
      ↔ (HasBirthIn before p b ⊎ (IsKeptIn after p × (IsKeptIn before p → ⊥) × (b ≡ birth)))
  pub formed_is : CountIs (λ p. IsKeptIn after p × (IsKeptIn before p → ⊥)) formed
  pub promoted_is : CountIs (λ p. IsHistoricalIn after p × (IsHistoricalIn before p → ⊥)) promoted

-- the single vertices alone are kept, all of them historical and with birth 0: what settling of a whole graph starts from
pub record AreSingles (n : ℕ) (paths : List KeptPath) : Type 0 where
  pub kept : (p : List ℕ) → IsKeptIn paths p ↔ IsVertex n p
  pub historical : (p : List ℕ) → IsHistoricalIn paths p ↔ IsVertex n p
  pub births : (p : List ℕ) (b : ℕ) → HasBirthIn paths p b ↔ (IsVertex n p × (b ≡ 0))
