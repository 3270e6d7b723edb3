-- What holds of the kept paths of an engine between two steps. No public clause cites this module.
use Rattle.std.specs.Prelude.{◌≡◌, ℕ, ◌↔◌, List}
use Rattle.apsp_model.specs.Graph.{Graph}
use Rattle.apsp_model.specs.Star.{AgreeAway}
use Rattle.apsp_model.specs.Part.{IsClosedUnderParts}
use Rattle.apsp_model.specs.Least.{IsLeastWalk}
use Rattle.apsp_model.specs.Local.{IsVertex, IsLocal}
use Rattle.apsp_model.specs.Kept.{Moment}
use Rattle.apsp_model.specs.Paths.{KeptPath, IsOncePerList, moment_in}
use Rattle.apsp_model.specs.Settled.{HaveWeights}

-- exactly what is local is kept, and each least walk is historical
pub record IsMomentOf (g : Graph) (m : Moment) : Type 0 where
  pub closed : IsClosedUnderParts m.historical
  pub singles : (p : List ℕ) → IsVertex g.vertices p → m.historical p
  pub marked_kept : (p : List ℕ) → m.historical p → m.kept p
  pub kept : (p : List ℕ) → m.kept p ↔ IsLocal g m.historical p
  pub single_births : (p : List ℕ) (b : ℕ) → IsVertex g.vertices p → m.birth p b ↔ (b ≡ 0)
  pub least : (p : List ℕ) → IsLeastWalk g p → m.historical p

-- the kept paths are lawful in the graph, with their weights in it, and each stands once
pub record AreLawful (g : Graph) (steps : ℕ) (paths : List KeptPath) : Type 0 where
  pub lawful : IsMomentOf g (moment_in steps paths)
  pub weights : HaveWeights g paths
  pub once : IsOncePerList paths

-- what a star step at v to the graph g starts from: the kept paths are lawful in a graph that differs at v alone
pub record IsStepReady (v : ℕ) (g : Graph) (steps : ℕ) (paths : List KeptPath) : Type 0 where
  pub before : Graph
  pub same : AgreeAway v before g
  pub lawful : AreLawful before steps paths
