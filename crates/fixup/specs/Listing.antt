-- Which winner lists a join. No public clause cites this file.
use Rattle.std.specs.Prelude.{◌≡◌, ℕ, ◌⊎◌, ◌↔◌, List, [], ◌++◌, Contains, map, slice_index, refl}
use Rattle.std.specs.Coded.{Coded, code_by, coded×, coded_ℕ, coded_list}
use Rattle.std.specs.declared.cmp.Ordering.TheVariants.{Less}
use Rattle.apsp_model.specs.Walk.{IsOnceEach}
use Rattle.path_arena.specs.Arena.{Arena, left_of, right_of, id_cmp}
use Rattle.path_book.specs.Book.{Book, book_code, IsMarked}
use Rattle.fixup.specs.declared.listing.Join.{Join}
use Rattle.fixup.specs.declared.listing.PartnerSide.{PartnerSide}
use Rattle.fixup.specs.declared.listing.PartnerSide.TheVariants.{Left, Right}

-- a book, and the winners of a class of it
pub record Class : Type 0 where
  pub book : Book
  pub winners : List ℕ

abbrev pub class_code : Coded Class
class_code =
    code_by (Book × List ℕ) (coded× book_code (coded_list coded_ℕ)) (λ c. (c.book, c.winners))
    (λ t. record { book = t.0; winners = t.1 }) (λ _. refl)

abbrev pub join_at : PartnerSide → ℕ → ℕ → Join
join_at Left w q = record { left = q; right = w }
join_at Right w q = record { left = w; right = q }

-- the joins of w with all partners, those in front and then those behind
abbrev pub all_joins : ℕ → List ℕ → List ℕ → List Join
all_joins w in_front behind = map (join_at Left w) in_front ++ map (join_at Right w) behind

-- a partner that is a winner is below the one that lists the join
abbrev pub Yields : Arena → List ℕ → ℕ → ℕ → Type 0
Yields a winners w q = Contains winners q → id_cmp a q w ≡ Less

-- with these partners
abbrev pub ListsFrom : Arena → List ℕ → ℕ → PartnerSide → List ℕ → Join → Type 0
ListsFrom a winners w side partners j =
    (q : ℕ) × Contains partners q × Yields a winners w q × (j ≡ join_at side w q)

-- the joins that the winner w lists
abbrev pub Lists : Book → List ℕ → ℕ → Join → Type 0
Lists b winners w j =
    ((j.right ≡ w) × IsMarked b j.left × (right_of b.arena j.left ≡ left_of b.arena w)
    × Yields b.arena winners w j.left)
    ⊎ ((j.left ≡ w) × IsMarked b j.right × (left_of b.arena j.right ≡ right_of b.arena w)
    × Yields b.arena winners w j.right)

-- those that any of the winners lists
abbrev pub ListedByAny : Book → List ℕ → Join → Type 0
ListedByAny b winners j = (w : ℕ) × Contains winners w × Lists b winners w j

-- those of which P holds stand behind the old ones, each once
pub record AreAdded (P : Join → Type 0) (old new : List Join) : Type 0 where
  pub more : List Join
  pub is : new ≡ old ++ more
  pub once : IsOnceEach more
  pub are : (j : Join) → Contains more j ↔ P j

-- the task of the winner at place k gives this list
abbrev pub ListsAt : Class → ℕ → List Join → Type 0
ListsAt c k joins = AreAdded (Lists c.book c.winners (slice_index c.winners k)) [] joins
