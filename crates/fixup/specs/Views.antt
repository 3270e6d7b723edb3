-- What a book and the held ids say of lists. No public clause cites this file.
use Rattle.std.specs.Prelude.{◌≡◌, ℕ, ◌<◌, List}
use Rattle.path_arena.specs.Arena.{list_of, IsLive}
use Rattle.path_book.specs.Book.{Book, IsMarked}
use Rattle.weight_classes.specs.Classes.{Classes, Rank, IsHeldWithRank, IsWon}

abbrev pub Kept : Book → List ℕ → Type 0
Kept b p = (id : ℕ) × IsLive b.arena id × (list_of b.arena id ≡ p)

abbrev pub Marked : Book → List ℕ → Type 0
Marked b p = (id : ℕ) × IsMarked b id × (list_of b.arena id ≡ p)

abbrev pub HeldIn : Book → Classes → List ℕ → Type 0
HeldIn b c p = (r : Rank) × (id : ℕ) × IsHeldWithRank c r id × (list_of b.arena id ≡ p)

abbrev pub WonIn : Classes → ℕ → ℕ → Type 0
WonIn c x y = (x < c.vertices) × (y < c.vertices) × IsWon c x y
