-- The walk along the extensions of paths. No public clause cites this module.
use Rattle.std.specs.Prelude.{◌≡◌, ℕ, Bool, false, ◌==◌, if◌then◌else◌, List, [], ◌∷◌, ◌++◌, Contains}
use Rattle.apsp_model.specs.Walk.{IsOnceEach}
use Rattle.path_arena.specs.Arena.{list_of}
use Rattle.extension_lists.specs.Known.{Sides, sides_at}
use Rattle.path_book.specs.Book.{Book}
use Rattle.cleanup_tasks.specs.declared.search.ExtensionSide.{ExtensionSide}
use Rattle.cleanup_tasks.specs.declared.search.ExtensionSide.TheVariants.{Left, Right}

-- whether a list, and the path of an id, starts at v
abbrev pub begins_with : List ℕ → ℕ → Bool
begins_with [] v = false
begins_with (x ∷ p) v = x == v

abbrev pub starts_at : Book → ℕ → ℕ → Bool
starts_at b v id = begins_with (list_of b.arena id) v

-- the paths that are one edge longer and have the path of the id as their parent: all that go on in front, and, where
-- it starts at v, all that go on behind
abbrev pub longer_of : Book → ℕ → ℕ → List ℕ
longer_of b v id = (sides_at b.lists id).left ++ (if starts_at b v id then (sides_at b.lists id).right else [])

-- what goes on at a side of a path
abbrev pub side_of : ExtensionSide → Sides → List ℕ
side_of Left sides = sides.left
side_of Right sides = sides.right

-- what goes on at a side of the paths of a list
abbrev pub extensions_of : ExtensionSide → Book → List ℕ → List ℕ
extensions_of side b [] = []
extensions_of side b (id ∷ ids) = side_of side (sides_at b.lists id) ++ extensions_of side b ids

-- behind the first paths and in front of all go these
pub record AreExtensions (b : Book) (starting passing behind in_front : List ℕ) : Type 0 where
  pub rights : behind ≡ extensions_of Right b starting
  pub lefts : in_front ≡ extensions_of Left b starting ++ extensions_of Left b passing
  pub right_once : (p : ℕ) → Contains starting p → IsOnceEach (sides_at b.lists p).right
  pub starting_once : (p : ℕ) → Contains starting p → IsOnceEach (sides_at b.lists p).left
  pub passing_once : (p : ℕ) → Contains passing p → IsOnceEach (sides_at b.lists p).left
