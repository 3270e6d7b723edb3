-- The paths that lie under an edge at a vertex. No public clause cites this module.
use Rattle.std.specs.Prelude.{◌≡◌, ℕ, zero, suc, ◌+◌, ◌-◌, ◌<◌, ◌↔◌, if◌then◌else◌, List, [], ◌∷◌, ◌++◌, Contains, unwrap_or, slice_index, refl}
use Rattle.std.specs.Coded.{Coded, code_by, coded×, coded_ℕ, coded_list}
use Rattle.std.specs.declared.alloc.Global.{Global}
use Rattle.std.specs.declared.vec.Vec.{Vec}
use Rattle.apsp_model.specs.Walk.{IsOnceEach}
use Rattle.path_arena.specs.Arena.{left_of, right_of}
use Rattle.path_book.specs.Book.{Book, book_code, IsBook}
use Rattle.cleanup_tasks.specs.declared.search.Level.{Level}
use Rattle.path_book.specs.Through.{IsThrough, hops_at}
use Rattle.cleanup_tasks.specs.Walk.{starts_at}

-- a path through v without its last vertex where it starts at v, and without its first vertex otherwise
abbrev pub parent_at : Book → ℕ → ℕ → ℕ
parent_at b v id = unwrap_or (if starts_at b v id then left_of b.arena id else right_of b.arena id) 0

-- .. so many times
abbrev pub ancestor : Book → ℕ → ℕ → ℕ → ℕ
ancestor b v zero id = id
ancestor b v (suc n) id = ancestor b v n (parent_at b v id)

-- the edge at v that a path through v comes to
abbrev pub edge_above : Book → ℕ → ℕ → ℕ
edge_above b v id = ancestor b v (hops_at b id - 1) id

-- a path through v with j edges more than the edge that it lies under
abbrev pub IsUnder : Book → ℕ → ℕ → ℕ → ℕ → Type 0
IsUnder b v edge j id = IsThrough b v id × (hops_at b id ≡ j + 1) × (edge_above b v id ≡ edge)

-- exactly the edges at v, each once
pub record AreEdges (b : Book) (v : ℕ) (edges : List ℕ) : Type 0 where
  pub lawful : IsBook b
  pub inside : v < b.arena.vertices
  pub exact : (id : ℕ) → Contains edges id ↔ (IsThrough b v id × (hops_at b id ≡ 1))
  pub once : IsOnceEach edges

abbrev pub paths_of_level : Level → List ℕ
paths_of_level l = l.starting.items ++ l.passing.items

-- the paths of a level, of which there are none behind the last
abbrev pub level_at : List Level → ℕ → List ℕ
level_at [] j = []
level_at (l ∷ ls) zero = paths_of_level l
level_at (l ∷ ls) (suc j) = level_at ls j

-- exactly the paths under an edge, by their number of edges, each once
pub record AreLevels (b : Book) (v edge : ℕ) (levels : List Level) : Type 0 where
  pub exact : (j id : ℕ) → Contains (level_at levels j) id ↔ IsUnder b v edge j id
  pub once : (j : ℕ) → IsOnceEach (level_at levels j)

-- one level of several walks, and all levels before one
abbrev pub across : ℕ → List (Vec Level Global) → List ℕ
across j [] = []
across j (w ∷ ws) = level_at w.items j ++ across j ws

abbrev pub upto : ℕ → List (Vec Level Global) → List ℕ
upto zero ws = []
upto (suc j) ws = upto j ws ++ across j ws

-- a book, a vertex, and the edges at it
pub record EdgesAt : Type 0 where
  pub book : Book
  pub vertex : ℕ
  pub edges : List ℕ

abbrev pub edges_code : Coded EdgesAt
edges_code =
    code_by (Book × (ℕ × List ℕ)) (coded× book_code (coded× coded_ℕ (coded_list coded_ℕ)))
    (λ e. (e.book, (e.vertex, e.edges)))
    (λ t. record { book = t.0; vertex = t.1.0; edges = t.1.1 }) (λ _. refl)

-- the levels of the walk from an edge
abbrev pub WalksAt : EdgesAt → ℕ → List Level → Type 0
WalksAt e k levels = AreLevels e.book e.vertex (slice_index e.edges k) levels
