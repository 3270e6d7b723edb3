-- What is shortest and what is locally shortest in a graph: the shortest lists are the single vertices and all least walks,
-- and a list is locally shortest where it is a simple walk each proper part of which is shortest.
use Rattle.std.specs.Prelude.{◌≡◌, ◌≢◌, ℕ, ◌⊎◌, ◌↔◌, ◌≤◌, ⊤, false, List, [], ◌∷◌, length, Contains}
use Rattle.apsp_model.specs.Graph.{Graph}
use Rattle.apsp_model.specs.Walk.{IsWalkFrom, IsOnceEach, weight_of}
use Rattle.apsp_model.specs.Part.{IsProperPart, IsClosedUnderParts}
use Rattle.apsp_model.specs.Local.{IsShortest, IsLocal}
use Rattle.apsp_model.specs.Paths.{KeptPath, IsKeptIn, IsHistoricalIn}
use Rattle.apsp_model.specs.Settled.{HaveWeights}
use Rattle.shortest_math.specs.Rising.{IsRisingBy}

abbrev pub IsLocallyShortest : Graph → List ℕ → Type 0
IsLocallyShortest g = IsLocal g (IsShortest g)

-- a list of paths none of which has more vertices than one before it
abbrev pub IsFalling : List (List ℕ) → Type 0
IsFalling [] = ⊤
IsFalling (h ∷ rest) = ((p : List ℕ) → Contains rest p → length p ≤ length h) × IsFalling rest

-- the demotion of the historical paths that are no longer least: H0 was historical at its start, H is by now,
-- K is kept by now, and Todo holds of the paths that are still to be demoted
pub record IsDemoting (g : Graph) (H0 H K Todo : List ℕ → Type 0) : Type 0 where
  pub closed : IsClosedUnderParts H
  pub old : (p : List ℕ) → H p → H0 p
  pub local : (p : List ℕ) → H p → IsLocal g H p
  pub historical : (p : List ℕ) → H p ↔ (IsShortest g p ⊎ Todo p)
  pub todo_apart : (p : List ℕ) → Todo p → IsShortest g p → ⊥
  -- what is local is kept, but for demoted paths that are not locally shortest
  pub kept : (p : List ℕ) → K p ↔ (IsLocal g H p × (H0 p → H p ⊎ IsLocallyShortest g p))

-- inside the demotion of h, where K was kept before it: the paths 'done' are forgotten, all of which have h as a
-- proper part
pub record IsForgetting (K : List ℕ → Type 0) (h : List ℕ) (done : List (List ℕ)) (K1 : List ℕ → Type 0) : Type 0 where
  pub kept : (p : List ℕ) → K1 p ↔ (K p × (Contains done p → ⊥))
  pub above : (p : List ℕ) → Contains done p → IsProperPart h p

-- exactly the locally shortest paths are kept, with their weights, and exactly the shortest ones of them are historical
pub record IsShortestBook (g : Graph) (paths : List KeptPath) : Type 0 where
  pub historical : (p : List ℕ) → IsHistoricalIn paths p ↔ IsShortest g p
  pub kept : (p : List ℕ) → IsKeptIn paths p ↔ IsLocallyShortest g p
  pub weights : HaveWeights g paths

-- so many pairs of different vertices have a walk
pub record PairsAre (g : Graph) (k : ℕ) : Type 0 where
  pub pairs : List (ℕ × ℕ)
  pub once : IsOnceEach pairs
  pub exact : (x y : ℕ) → Contains pairs (x, y) ↔ ((x ≢ y) × ((q : List ℕ) × IsWalkFrom g x y q))
  pub length_is : length pairs ≡ k

-- what one demotion leaves of the kept paths: those that neither are h nor have it as a proper part, each as it was,
-- and, where h is locally
-- shortest, h without its mark
abbrev pub IsDemoted : Graph → ℕ → List ℕ → List KeptPath → List KeptPath → Type 0
IsDemoted g birth h before after = (k : KeptPath) → Contains after k ↔
    ((Contains before k × (IsProperPart h k.list → ⊥) × (k.list ≡ h → ⊥))
    ⊎ ((k ≡ record { list = h; weight = weight_of g h; historical = false; birth = birth }) × IsLocallyShortest g h))

-- before each demotion: the paths of ps, which stand in rising hops, are still to be demoted
pub record IsShortening (g : Graph) (H0 : List ℕ → Type 0) (ps : List (List ℕ)) (paths : List KeptPath) : Type 0 where
  pub demoting : IsDemoting g H0 (IsHistoricalIn paths) (IsKeptIn paths) (Contains ps)
  pub once : IsOnceEach ps
  pub rising : IsRisingBy length ps
  pub weights : HaveWeights g paths
