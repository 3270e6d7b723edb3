-- A grow adds single vertices and no walk with an edge: for the crates that let a graph grow.
use Rattle.std.specs.Prelude.{◌≡◌, ℕ, ◌<◌, ◌≤◌, List, [], ◌∷◌, length, Option, Some, None, refl}
use Rattle.std.proofs.Common.{ap, subst, arith}
use Rattle.apsp_model.specs.Graph.{Graph, HasEdge, IsGraph, IsEdgeOf, widened, weight_at}
use Rattle.apsp_model.specs.Walk.{IsWalk, IsWalkFrom, weight_of}
use Rattle.apsp_model.specs.Order.{IsBelow, walk_cmp}
use Rattle.apsp_model.specs.Least.{IsLeastWalk}
use Rattle.apsp_model.specs.Local.{IsVertex}
use Rattle.apsp_model.specs.Kept.{IsWithEdge}
use Rattle.apsp_model.specs.Grows.{IsGrowable}

-- the edges of a graph are between its vertices
pub edge_inside : (g : Graph) → IsGraph g → (u v : ℕ) → HasEdge g u v → (u < g.vertices) × (v < g.vertices)
edge_inside g graph u v edge = go (weight_at g u v) refl
  where
    go : (o : Option ℕ) → weight_at g u v ≡ o → (u < g.vertices) × (v < g.vertices)
    go None e = cc
    go (Some w) e = let r : IsEdgeOf g.vertices u v w = graph.edges u v w e in (r.from, r.to)

pub graph_grows : (g : Graph) (m : ℕ) → IsGraph g → g.vertices ≤ m → IsGrowable g m
graph_grows g m graph fewer = record { fewer = fewer; inside = edge_inside g graph }

module _ (g : Graph) (m : ℕ) (grows : IsGrowable g m) where
  pub walk_then : (p : List ℕ) → IsWalk g p → IsWalk (widened g m) p
  walk_then [] walk = walk
  walk_then (x ∷ []) walk = let l : g.vertices ≤ m = grows.fewer in omega (arith, l, walk)
  walk_then (x ∷ y ∷ p) walk =
      (let l : g.vertices ≤ m = grows.fewer in omega (arith, l, walk.0), walk.1, walk_then (y ∷ p) walk.2)

  -- a walk with an edge was one before
  pub walk_before : (p : List ℕ) → IsWithEdge p → IsWalk (widened g m) p → IsWalk g p
  walk_before [] long walk = absurd walk
  walk_before (x ∷ []) long walk = absurd (omega (arith, long))
  walk_before (x ∷ y ∷ []) long walk = ((grows.inside x y walk.1).0, walk.1, (grows.inside x y walk.1).1)
  walk_before (x ∷ y ∷ z ∷ p) long walk =
      ((grows.inside x y walk.1).0, walk.1, walk_before (y ∷ z ∷ p) (omega arith) walk.2)

  pub weight_then : (p : List ℕ) → weight_of (widened g m) p ≡ weight_of g p
  weight_then [] = refl
  weight_then (x ∷ []) = refl
  weight_then (x ∷ y ∷ p) = refl
