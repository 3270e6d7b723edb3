-- What contracts see of the least path that an engine names.
use Rattle.std.specs.Prelude.{◌≡◌, ℕ, refl}
use Rattle.std.specs.Coded.{Coded, code_by, coded×, coded_ℕ}
use Rattle.apsp_model.specs.Walk.{weight_of as walk_weight}
use Rattle.apsp_model.specs.Least.{IsLeast}
use Rattle.path_arena.specs.Arena.{list_of, weight_of_id}
use Rattle.path_book.specs.Book.{Book, book_code, IsBook, IsLeastKeptId}
use Rattle.history_engine.specs.Seen.{EngineSeen}

-- the book that it stands in, and its id
pub record LeastPath : Type 0 where
  pub book : Book
  pub id : ℕ

abbrev pub least_code : Coded LeastPath
least_code =
    code_by (Book × ℕ) (coded× book_code coded_ℕ) (λ l. (l.book, l.id)) (λ t. record { book = t.0; id = t.1 })
    (λ _. refl)

-- the book is the engine's; the id is that of its least kept path of the pair, which is the least walk of the graph,
-- with its weight
pub record IsLeastPath (e : EngineSeen) (x y : ℕ) (l : LeastPath) : Type 0 where
  pub book : l.book ≡ e.book
  pub lawful : IsBook l.book
  pub first : IsLeastKeptId l.book x y l.id
  pub walk : IsLeast e.graph x y (list_of l.book.arena l.id)
  pub weight : weight_of_id l.book.arena l.id ≡ walk_weight e.graph (list_of l.book.arena l.id)
