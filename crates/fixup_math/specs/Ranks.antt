-- Ranks of walks, and the one by which classes are taken: weight, and then the number of edges.
use Rattle.std.specs.Prelude.{◌≡◌, ℕ, ◌<◌, ◌≤◌, ◌⊎◌, List, length}
use Rattle.apsp_model.specs.Graph.{Graph}
use Rattle.apsp_model.specs.Walk.{IsWalk, weight_of, hops_of}
use Rattle.apsp_model.specs.Part.{left_part, right_part}
use Rattle.apsp_model.specs.Order.{IsUpto}

-- a rank of walks that does not fall from a list to one above it, and rises from a part without an end to the whole
pub record IsRank (g : Graph) (UpTo : List ℕ → List ℕ → Type 0) : Type 0 where
  pub chain : (p q r : List ℕ) → UpTo p q → UpTo q r → UpTo p r
  pub order : (p q : List ℕ) → IsUpto g p q → UpTo p q
  pub left : (p : List ℕ) → IsWalk g p → 3 ≤ length p → UpTo (left_part p) p
  pub right : (p : List ℕ) → IsWalk g p → 3 ≤ length p → UpTo (right_part p) p
  pub strict_left : (p : List ℕ) → IsWalk g p → 3 ≤ length p → UpTo p (left_part p) → ⊥
  pub strict_right : (p : List ℕ) → IsWalk g p → 3 ≤ length p → UpTo p (right_part p) → ⊥

-- by weight and then hops: no premise on weights
abbrev pub ByWeightThenHops : Graph → List ℕ → List ℕ → Type 0
ByWeightThenHops g p q = (weight_of g p < weight_of g q) ⊎ ((weight_of g p ≡ weight_of g q) × (hops_of p ≤ hops_of q))
