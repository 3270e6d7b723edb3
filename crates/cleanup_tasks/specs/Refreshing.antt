-- The least kept paths of pairs, and what stays historical and kept in a cleaning in place. No public clause cites this
-- module.
use Rattle.std.specs.Prelude.{◌≡◌, ◌≢◌, ℕ, ◌⊎◌, Some}
use Rattle.apsp_model.specs.Local.{Avoids}
use Rattle.path_arena.specs.Arena.{list_of, left_of, right_of}
use Rattle.pair_heaps.specs.Heaps.{HasEnds}
use Rattle.path_book.specs.Book.{Book, IsLeastKeptId}

-- the least kept path of its pair
abbrev pub IsLeastId : Book → ℕ → Type 0
IsLeastId b id = (x : ℕ) × (y : ℕ) × IsLeastKeptId b x y id

-- another path is the least of its pair
pub record IsHigherId (b : Book) (id : ℕ) : Type 0 where
  pub from : ℕ
  pub to : ℕ
  pub ends : HasEnds b.arena id from to
  pub other : ℕ
  pub apart : other ≢ id
  pub least : IsLeastKeptId b from to other

-- of what is historical what avoids v stays so, and what is the least of its pair
abbrev pub StaysMarked : ℕ → Book → ℕ → Type 0
StaysMarked v b id = Avoids (list_of b.arena id) v ⊎ IsLeastId b id

-- each part of a path stays historical
abbrev pub LeftStays : ℕ → Book → ℕ → Type 0
LeftStays v b id = (l : ℕ) → left_of b.arena id ≡ Some l → StaysMarked v b l

abbrev pub RightStays : ℕ → Book → ℕ → Type 0
RightStays v b id = (r : ℕ) → right_of b.arena id ≡ Some r → StaysMarked v b r

pub record HasStayingParts (v : ℕ) (b : Book) (id : ℕ) : Type 0 where
  pub left : LeftStays v b id
  pub right : RightStays v b id
