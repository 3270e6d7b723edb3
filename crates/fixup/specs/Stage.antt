-- Where a settling stands. No public clause cites this file.
use Rattle.std.specs.Prelude.{ℕ, List}
use Rattle.apsp_model.specs.Graph.{Graph}
use Rattle.path_book.specs.Book.{Book}
use Rattle.weight_classes.specs.Classes.{Classes}

-- the graph, and the book at the start
pub record Start : Type 0 where
  pub graph : Graph
  pub opening : Book

-- .. with the class and its winners, the book and the held ids when it was taken, and the book once the winners were
-- historical
pub record Stage : Type 0 where
  pub graph : Graph
  pub opening : Book
  pub class : List ℕ
  pub winners : List ℕ
  pub before : Book
  pub held : Classes
  pub promoted : Book
