-- Ids of historical paths that are to be demoted. No public clause cites this module.
use Rattle.std.specs.Prelude.{◌≡◌, ℕ, ◌<◌, ◌⊎◌, ◌↔◌, List, ◌∷◌, [], ◌++◌, map, length, Some, Contains}
use Rattle.apsp_model.specs.Graph.{Graph}
use Rattle.apsp_model.specs.Walk.{IsOnceEach}
use Rattle.apsp_model.specs.Paths.{KeptPath, IsHistoricalIn}
use Rattle.path_arena.specs.Arena.{Arena, vertex_of, IsLive, list_of, left_of, right_of}
use Rattle.path_book.specs.Book.{Book, IsMarked, kept_paths}
use Rattle.path_book.specs.Through.{AreForgotten}
use Rattle.shortest_math.specs.Rising.{IsRisingBy}
use Rattle.apsp_model.specs.Local.{IsShortest}
use Rattle.shortest_math.specs.Shortest.{IsShortening}

abbrev pub size_at : Book → ℕ → ℕ
size_at b id = length (list_of b.arena id)

abbrev pub lists_at : Book → List ℕ → List (List ℕ)
lists_at b ids = map (λ id. list_of b.arena id) ids

-- exactly the historical paths, each once, in rising hops
pub record AreMarked (b : Book) (ids : List ℕ) : Type 0 where
  pub exact : (id : ℕ) → Contains ids id ↔ IsMarked b id
  pub once : IsOnceEach ids
  pub rising : IsRisingBy (size_at b) ids

-- exactly the historical paths that are not shortest, each once, in rising hops
pub record AreOutdone (g : Graph) (b : Book) (ids : List ℕ) : Type 0 where
  pub exact : (id : ℕ) → Contains ids id ↔ (IsMarked b id × (IsShortest g (list_of b.arena id) → ⊥))
  pub once : IsOnceEach ids
  pub rising : IsRisingBy (size_at b) ids

-- the paths of these ids are still to be demoted, where the paths 'settled' were kept behind the settling
pub record AreToDemote (g : Graph) (b : Book) (ids : List ℕ) : Type 0 where
  pub settled : List KeptPath
  pub same : b.arena.vertices ≡ g.vertices
  pub live : (id : ℕ) → Contains ids id → IsLive b.arena id
  pub shortening : IsShortening g (IsHistoricalIn settled) (lists_at b ids) (kept_paths b)

-- .. and the last of them is this one
abbrev pub IsLastToDemote : Graph → Book → ℕ → Type 0
IsLastToDemote g b id = (rest : List ℕ) × AreToDemote g b (rest ++ id ∷ [])

-- the path of k is that of id with one vertex more, in front or behind
abbrev pub IsLongerBy : Arena → ℕ → ℕ → Type 0
IsLongerBy a id k = (left_of a k ≡ Some id) ⊎ (right_of a k ≡ Some id)

-- the path of id is forgotten, and those with one vertex more
pub record IsForgottenFrom (old new : Book) (id : ℕ) : Type 0 where
  pub ids : List ℕ
  pub exact : (k : ℕ) → Contains ids k ↔ (IsLongerBy old.arena id k ⊎ (k ≡ id))
  pub forgotten : AreForgotten old new ids

-- .. exactly those, each once
pub record AreLonger (b : Book) (id : ℕ) (ids : List ℕ) : Type 0 where
  pub exact : (k : ℕ) → Contains ids k ↔ IsLongerBy b.arena id k
  pub once : IsOnceEach ids

-- the ids of the single vertices below n, each once
pub record AreSingleIds (b : Book) (n : ℕ) (ids : List ℕ) : Type 0 where
  pub exact : (id : ℕ) → Contains ids id ↔ ((v : ℕ) × (v < n) × (id ≡ vertex_of b.arena v))
  pub once : IsOnceEach ids
