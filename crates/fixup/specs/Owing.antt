-- What it is to promote the winners of a class, and the joins that the class owes then.
use Rattle.std.specs.Prelude.{◌≡◌, ℕ, ◌⊎◌, ◌↔◌, List, Contains}
use Rattle.apsp_model.specs.Walk.{IsOnceEach}
use Rattle.path_arena.specs.Arena.{left_of, right_of, HasAnEdge}
use Rattle.path_book.specs.Book.{Book, IsMarked, IsBook}
use Rattle.weight_classes.specs.Classes.{InOrder}
use Rattle.fixup.specs.declared.listing.Join.{Join}

-- kept paths with edges, in the order of their pairs, so that no two are of one pair
pub record CanBeWinners (b : Book) (winners : List ℕ) : Type 0 where
  pub lawful : IsBook b
  pub in_order : InOrder b.arena winners
  pub edge : (w : ℕ) → Contains winners w → HasAnEdge b.arena w

-- the winners are historical too, and else the book is as before
pub record IsPromoted (before : Book) (winners : List ℕ) (b : Book) : Type 0 where
  pub lawful : IsBook b
  pub arena : b.arena ≡ before.arena
  pub marks : (id : ℕ) → IsMarked b id ↔ (IsMarked before id ⊎ Contains winners id)

-- two historical paths that overlap in all but their outer vertices, of which one is a winner or both are
pub record IsOwed (b : Book) (winners : List ℕ) (j : Join) : Type 0 where
  pub left : IsMarked b j.left
  pub right : IsMarked b j.right
  pub meets : right_of b.arena j.left ≡ left_of b.arena j.right
  pub promoted : Contains winners j.left ⊎ Contains winners j.right

-- these joins are owed and no others, each stands once
pub record AreOwed (b : Book) (winners : List ℕ) (joins : List Join) : Type 0 where
  pub once : IsOnceEach joins
  pub are : (j : Join) → Contains joins j ↔ IsOwed b winners j
