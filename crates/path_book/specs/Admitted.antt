-- What a new path changes in the parts of a book. No public clause cites this module.
use Rattle.std.specs.Prelude.{◌≡◌, ℕ, ◌≤◌, Some, Contains}
use Rattle.path_arena.specs.Arena.{Arena, left_of, right_of}
use Rattle.pair_heaps.specs.Heaps.{Heaps, IsInserted, HeapsFit, HasEnds, spare_at}
use Rattle.extension_lists.specs.Known.{Known, IsKnown, sides_at}
use Rattle.path_book.specs.Book.{entered}
use Rattle.path_book.specs.declared.admit.NewPath.{NewPath}

-- the id stands in no list
pub record StandsNowhere (lists : Known) (id : ℕ) : Type 0 where
  pub left : (k : ℕ) → Contains (sides_at lists k).left id → ⊥
  pub right : (k : ℕ) → Contains (sides_at lists k).right id → ⊥
  pub left_star : (k : ℕ) → Contains (sides_at lists k).left_star id → ⊥
  pub right_star : (k : ℕ) → Contains (sides_at lists k).right_star id → ⊥

-- lists that can take a new path of the arena
pub record CanEnter (a : Arena) (lists : Known) (id : ℕ) : Type 0 where
  pub new : IsKnown lists id → ⊥
  pub left_known : (l : ℕ) → left_of a id ≡ Some l → IsKnown lists l
  pub right_known : (r : ℕ) → right_of a id ≡ Some r → IsKnown lists r
  pub nowhere : StandsNowhere lists id

-- heaps that have room for a new path of the arena
pub record HasRoomForPath (a : Arena) (heaps : Heaps) (id : ℕ) : Type 0 where
  pub fits : HeapsFit heaps a
  pub spare : (x y : ℕ) → HasEnds a id x y → 1 ≤ spare_at heaps x y

-- the parts and the ends of a path of the arena are these
pub record IsKnownPath (a : Arena) (path : NewPath) : Type 0 where
  pub left : left_of a path.id ≡ Some path.left
  pub right : right_of a path.id ≡ Some path.right
  pub ends : HasEnds a path.id path.room.x path.room.y

pub record IsAdmitted (a : Arena) (old new : Heaps) (lists later : Known) (id : ℕ) : Type 0 where
  pub fits : HeapsFit new a
  pub inserted : (x y : ℕ) → HasEnds a id x y → IsInserted old new id x y
  pub entered_lists : (l r : ℕ) → left_of a id ≡ Some l → right_of a id ≡ Some r → later ≡ entered lists id l r
