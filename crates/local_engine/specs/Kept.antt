-- What is kept before an update, behind a settling, and at any moment between. No public clause cites this module.
use Rattle.std.specs.Prelude.{ℕ, List}
use Rattle.apsp_model.specs.Graph.{Graph}
use Rattle.apsp_model.specs.Star.{AgreeAway}
use Rattle.apsp_model.specs.Walk.{IsWalk}
use Rattle.apsp_model.specs.Least.{IsLeastWalk}
use Rattle.apsp_model.specs.Paths.{KeptPath, IsKeptIn, IsHistoricalIn}
use Rattle.apsp_model.specs.Settled.{HaveWeights, AreLocal}
use Rattle.apsp_model.specs.Local.{IsShortest}
use Rattle.shortest_math.specs.Shortest.{IsShortestBook}

-- an update at v to the graph g starts from the locally shortest paths of a graph that differs at v alone
pub record IsUpdateReady (v : ℕ) (g : Graph) (paths : List KeptPath) : Type 0 where
  pub before : Graph
  pub same : AgreeAway v before g
  pub kept : IsShortestBook before paths

-- exactly what is local is kept, and each least walk is historical
pub record KeepsLocal (g : Graph) (paths : List KeptPath) : Type 0 where
  pub local : AreLocal g paths
  pub least : (p : List ℕ) → IsLeastWalk g p → IsHistoricalIn paths p

-- each shortest list is kept, and what is kept is a walk of the graph, with its weight
pub record CoversShortest (g : Graph) (paths : List KeptPath) : Type 0 where
  pub shortest : (p : List ℕ) → IsShortest g p → IsKeptIn paths p
  pub walks : (p : List ℕ) → IsKeptIn paths p → IsWalk g p
  pub weights : HaveWeights g paths
