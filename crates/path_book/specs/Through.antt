-- The kept paths through a vertex, and a book without them.
use Rattle.std.specs.Prelude.{◌≡◌, ℕ, ◌≤◌, ◌↔◌, ⊤, List, [], ◌∷◌, Some, Contains}
use Rattle.apsp_model.specs.Walk.{IsOnceEach, hops_of}
use Rattle.path_arena.specs.Arena.{Path, path_at, list_of, HasAnEdge}
use Rattle.path_book.specs.Book.{Book, IsMarked}

-- a kept path with an edge through v
abbrev pub IsThrough : Book → ℕ → ℕ → Type 0
IsThrough b v id = HasAnEdge b.arena id × Contains (list_of b.arena id) v

abbrev pub hops_at : Book → ℕ → ℕ
hops_at b id = hops_of (list_of b.arena id)

-- no path stands behind one with more edges
abbrev pub InRisingHops : Book → List ℕ → Type 0
InRisingHops b [] = ⊤
InRisingHops b (id ∷ ids) = ((q : ℕ) → Contains ids q → hops_at b id ≤ hops_at b q) × InRisingHops b ids

-- exactly the kept paths with an edge through v, each once, in rising hops
pub record IsVictims (b : Book) (v : ℕ) (ids : List ℕ) : Type 0 where
  pub exact : (id : ℕ) → Contains ids id ↔ IsThrough b v id
  pub once : IsOnceEach ids
  pub rising : InRisingHops b ids

-- exactly the other paths are kept, each as it was, and those of them are historical that were
pub record AreForgotten (old new : Book) (ids : List ℕ) : Type 0 where
  pub vertices : new.arena.vertices ≡ old.arena.vertices
  pub singles : new.arena.singles ≡ old.arena.singles
  pub paths : (id : ℕ) (p : Path) → (path_at new.arena id ≡ Some p)
      ↔ ((path_at old.arena id ≡ Some p) × (Contains ids id → ⊥))
  pub marked : (id : ℕ) → IsMarked new id ↔ (IsMarked old id × (Contains ids id → ⊥))
