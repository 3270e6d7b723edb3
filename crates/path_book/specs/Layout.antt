-- How a book lays out its parts. No public clause cites this module.
use Rattle.std.specs.Prelude.{◌≡◌, ℕ, ◌+◌, ◌<◌, ◌≤◌, ◌⊎◌, Bool, true, false, IsTrue, List, [], ◌∷◌, slice_index_or, Some, Contains}
use Rattle.std.specs.Ordering.{nat_cmp}
use Rattle.std.specs.FinSet as set
use Rattle.apsp_model.specs.declared.TheConstants.{MOST_PATHS}
use Rattle.apsp_model.specs.Walk.{IsOnceEach, last}
use Rattle.apsp_model.specs.Counts.{CountIs}
use Rattle.path_arena.specs.Arena.{Arena, HasAnEdge, vertex_of, list_of, left_of}
use Rattle.pair_heaps.specs.Heaps.{Heaps, held_at, HeapsFit, HasEnds}
use Rattle.extension_lists.specs.Known.{Known, no_sides, IsKnown, sides_at}
use Rattle.path_book.specs.Book.{Book, IsBook, IsPendingLeast, HasNoPendingLeast}
use Rattle.path_book.specs.Dirty.{Dirty, is_dirty}
use Rattle.path_book.specs.declared.book.Book.TheInside.{Inside}

-- the places of the marks, the first of which is k
abbrev pub places_from : ℕ → List Bool → List ℕ
places_from k [] = []
places_from k (true ∷ marks) = k ∷ places_from (k + 1) marks
places_from k (false ∷ marks) = places_from (k + 1) marks

abbrev pub marked_in : List Bool → set.FinSet nat_cmp
marked_in marks = set.from_list (places_from 0 marks)

abbrev pub mark_at : List Bool → ℕ → Bool
mark_at marks id = slice_index_or marks id false

abbrev pub view_of : Inside → Book
view_of b = record { arena = b.arena; marked = marked_in b.marks.items; lists = b.lists }

-- each path with an edge is held once, of the pair of its ends, and nothing else is
pub record HoldsPaths (a : Arena) (h : Heaps) : Type 0 where
  pub fits : HeapsFit h a
  pub held : (id x y : ℕ) → HasAnEdge a id → HasEnds a id x y → Contains (held_at h x y) id
  pub only : (id x y : ℕ) → Contains (held_at h x y) id → HasAnEdge a id

-- lists of paths with an edge, historical or not yet
abbrev pub IsCounted : Book → Bool → List ℕ → Type 0
IsCounted b historical p =
    (id : ℕ) × HasAnEdge b.arena id × (list_of b.arena id ≡ p) × (set.contains b.marked id ≡ historical)

-- the parts of a book keep what contracts see of it
pub record IsStored (b : Book) (held : Heaps) (historical pending : ℕ) : Type 0 where
  pub book : IsBook b
  pub heaps : HoldsPaths b.arena held
  pub historical_count : CountIs (IsCounted b true) historical
  pub pending_count : CountIs (IsCounted b false) pending
  pub most : historical + pending ≤ MOST_PATHS

-- of a pair that is not dirty the least kept path, if there is one, is historical
pub record IsClean (b : Book) (d : Dirty) : Type 0 where
  pub vertices : b.arena.vertices ≡ d.vertices
  pub clean : (x y : ℕ) → x < d.vertices → y < d.vertices → is_dirty d x y ≡ false → HasNoPendingLeast b x y

pub record IsLaidOut (b : Book) (held : Heaps) (d : Dirty) (historical pending : ℕ) : Type 0 where
  pub stored : IsStored b held historical pending
  pub dirty : IsClean b d

abbrev pub IsSound : Inside → Type 0
IsSound b = IsLaidOut (view_of b) b.heaps b.dirty b.historical b.pending

-- these are the least kept paths of these pairs that are not historical, each once
pub record AreHeadsOf (b : Book) (pairs : List (ℕ × ℕ)) (ids : List ℕ) : Type 0 where
  pub looked : (p : ℕ × ℕ) → Contains pairs p
      → HasNoPendingLeast b p.0 p.1 ⊎ ((id : ℕ) × IsPendingLeast b p.0 p.1 id × Contains ids id)
  pub only : (id : ℕ) → Contains ids id → (p : ℕ × ℕ) × Contains pairs p × IsPendingLeast b p.0 p.1 id
  pub once : IsOnceEach ids

-- the path of an id is that of another with v behind it
abbrev pub IsExtensionTo : Arena → ℕ → ℕ → ℕ → Type 0
IsExtensionTo a id v longer = (left_of a longer ≡ Some id) × (last (list_of a longer) ≡ Some v)

-- the lists know, and the marks mark, exactly the single vertices below v
pub record IsOpenedTo (a : Arena) (lists : Known) (marks : List Bool) (v : ℕ) : Type 0 where
  pub known : (id : ℕ) → IsKnown lists id → (u : ℕ) × (u < v) × (id ≡ vertex_of a u)
  pub to_known : (u : ℕ) → u < v → IsKnown lists (vertex_of a u)
  pub empty : (id : ℕ) → sides_at lists id ≡ no_sides
  pub marked : (id : ℕ) → IsTrue (set.contains (marked_in marks) id) → (u : ℕ) × (u < v) × (id ≡ vertex_of a u)
  pub to_marked : (u : ℕ) → u < v → IsTrue (set.contains (marked_in marks) (vertex_of a u))
