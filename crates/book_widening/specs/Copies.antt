-- Copies of the paths of a book in a wider one.
use Rattle.std.specs.Prelude.{◌≡◌, ℕ, ◌+◌, ◌<◌, ◌≤◌, ◌⊎◌, ◌↔◌, List, Option, Some, None, IsSome, slice_index_or, Contains}
use Rattle.apsp_model.specs.Walk.{IsOnceEach}
use Rattle.path_arena.specs.Arena.{Path, Arena, path_at, path_of, list_of, weight_of_id, vertex_of, left_of, right_of, IsLive, HasAnEdge}
use Rattle.path_book.specs.Book.{Book, IsBook, kept_path, with_kept}
use Rattle.path_book.specs.Through.{hops_at}

-- the copy of an id, where it has one
abbrev pub copy_at : List (Option ℕ) → ℕ → Option ℕ
copy_at copies id = slice_index_or copies id None

-- a path of two edges or more weighs what its two parts weigh, less what they overlap in
abbrev pub HaveSums : Arena → Type 0
HaveSums a = (id l r m : ℕ) → left_of a id ≡ Some l → right_of a id ≡ Some r → right_of a l ≡ Some m
    → weight_of_id a id + weight_of_id a m ≡ weight_of_id a l + weight_of_id a r

-- exactly the kept paths with so many edges, each once
pub record IsLevel (b : Book) (hops : ℕ) (ids : List ℕ) : Type 0 where
  pub exact : (id : ℕ) → Contains ids id ↔ (IsLive b.arena id × (hops_at b id ≡ hops))
  pub once : IsOnceEach ids

-- c is kept in w as o is in b
pub record IsCopy (b w : Book) (o c : ℕ) : Type 0 where
  pub original : IsLive b.arena o
  pub live : IsLive w.arena c
  pub is : kept_path w c (path_of w.arena c) ≡ kept_path b o (path_of b.arena o)

-- the copies are kept in w, and but for them the single vertices alone
pub record AreCopies (b w : Book) (copies : List (Option ℕ)) : Type 0 where
  pub from_book : IsBook b
  pub book : IsBook w
  pub more : b.arena.vertices ≤ w.arena.vertices
  pub copy : (o c : ℕ) → copy_at copies o ≡ Some c → IsCopy b w o c
  pub only : (c : ℕ) → IsLive w.arena c
      → ((o : ℕ) × (copy_at copies o ≡ Some c)) ⊎ ((v : ℕ) × (v < w.arena.vertices) × (c ≡ vertex_of w.arena v))

-- exactly the paths with at most so many edges have a copy
abbrev pub AreCopied : Book → ℕ → List (Option ℕ) → Type 0
AreCopied b hops copies = (o : ℕ) → IsSome (copy_at copies o) ↔ (IsLive b.arena o × (hops_at b o ≤ hops))

-- a path with an edge that has no copy, while its parts have
pub record CanBeCopied (b : Book) (copies : List (Option ℕ)) (id : ℕ) : Type 0 where
  pub edge : HasAnEdge b.arena id
  pub new : copy_at copies id ≡ None
  pub left : (l : ℕ) → left_of b.arena id ≡ Some l → IsSome (copy_at copies l)
  pub right : (r : ℕ) → right_of b.arena id ≡ Some r → IsSome (copy_at copies r)

-- one more path is kept, which is not historical, with the list, the weight and the birth of that of b
pub record IsFormedLike (b old new : Book) (id c : ℕ) : Type 0 where
  pub path : Path
  pub formed : new ≡ with_kept old c path
  pub fresh : path_at old.arena c ≡ None
  pub list : path.list ≡ list_of b.arena id
  pub weight : path.weight ≡ weight_of_id b.arena id
  pub birth : path.birth ≡ (path_of b.arena id).birth

-- one more path is kept, which is the copy of that of b
pub record HasCopied (b old new : Book) (id c : ℕ) : Type 0 where
  pub book : IsBook new
  pub vertices : new.arena.vertices ≡ old.arena.vertices
  pub singles : new.arena.singles ≡ old.arena.singles
  pub fresh : path_at old.arena c ≡ None
  pub only : (q : ℕ) → IsLive new.arena q → (q ≡ c) ⊎ IsLive old.arena q
  pub still : (q : ℕ) → IsLive old.arena q
      → IsLive new.arena q × (kept_path new q (path_of new.arena q) ≡ kept_path old q (path_of old.arena q))
  pub copy : IsCopy b new id c
