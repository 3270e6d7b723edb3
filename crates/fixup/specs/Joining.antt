-- What one join leaves of a book and of the held ids. No public clause cites this file.
use Rattle.std.specs.Prelude.{◌≡◌, ◌≢◌, ℕ, ◌⊎◌, None}
use Rattle.apsp_model.specs.Walk.{first, last}
use Rattle.path_arena.specs.Arena.{path_at, list_of, joined_path}
use Rattle.path_book.specs.Book.{Book, with_kept, IsLeastKeptId}
use Rattle.pair_heaps.specs.Heaps.{HasEnds}
use Rattle.weight_classes.specs.Classes.{Classes, IsPushed}

-- a kept path from x to y is held where it is the least of its pair
abbrev pub IsQueuedIfLeast : Book → ℕ → ℕ → ℕ → Classes → Classes → Type 0
IsQueuedIfLeast b x y id old new =
    (IsLeastKeptId b x y id × IsPushed old new b.arena id) ⊎ ((q : ℕ) × (q ≢ id) × IsLeastKeptId b x y q × (new ≡ old))

-- the join of l and r is kept, with this birth
pub record IsJoinFormed (b : Book) (c : Classes) (l r birth : ℕ) (after : Book) (held : Classes) : Type 0 where
  pub id : ℕ
  pub from : ℕ
  pub to : ℕ
  pub fresh : path_at b.arena id ≡ None
  pub kept : after ≡ with_kept b id (joined_path b.arena l r birth)
  pub ends : HasEnds after.arena id from to
  pub queued : IsQueuedIfLeast after from to id c held

-- nothing is changed where the first vertex of l is the last of r, and else their join is kept
abbrev pub IsJoined : Book → Classes → ℕ → ℕ → ℕ → Book → Classes → Type 0
IsJoined b c l r birth after held =
    ((first (list_of b.arena l) ≡ last (list_of b.arena r)) × (after ≡ b) × (held ≡ c))
    ⊎ ((first (list_of b.arena l) ≢ last (list_of b.arena r)) × IsJoinFormed b c l r birth after held)
