-- What contracts see of a book: the kept paths, which of them are historical, and their extensions.
use Rattle.std.specs.Prelude.{◌≡◌, ◌≢◌, ℕ, ◌<◌, ◌⊎◌, ◌↔◌, Bool, true, false, IsTrue, List, map, Some, unwrap_or, refl, Contains}
use Rattle.std.specs.Ordering.{nat_cmp}
use Rattle.std.specs.Coded.{Coded, code_by, coded×, coded_ℕ}
use Rattle.std.specs.FinMap as paths
use Rattle.std.specs.FinSet as set
use Rattle.std.specs.declared.cmp.Ordering.TheVariants.{Less}
use Rattle.apsp_model.specs.Walk.{IsOnceEach}
use Rattle.apsp_model.specs.Kept.{IsWithEdge}
use Rattle.apsp_model.specs.Counts.{CountIs}
use Rattle.apsp_model.specs.Paths.{KeptPath, IsKeptIn, IsHistoricalIn}
use Rattle.path_arena.specs.Arena.{Path, Arena, arena_code, path_of, vertex_of, IsLive, list_of, left_of, right_of, with_path, without_path, with_birth, id_cmp, IsArena}
use Rattle.pair_heaps.specs.Heaps.{HasEnds}
use Rattle.extension_lists.specs.Known.{Known, known_code, IsKnown, sides_at, no_sides, added, IsDropped}

-- the paths by id, all of which are kept, the ids of those that are historical, and the extensions of each by one edge
pub record Book : Type 0 where
  pub arena : Arena
  pub marked : set.FinSet nat_cmp
  pub lists : Known

abbrev pub book_code : Coded Book
book_code =
    code_by (Arena × (set.FinSet nat_cmp × Known)) (coded× arena_code (coded× (set.code coded_ℕ) known_code))
    (λ b. (b.arena, (b.marked, b.lists))) (λ t. record { arena = t.0; marked = t.1.0; lists = t.1.1 }) (λ _. refl)

abbrev pub IsMarked : Book → ℕ → Type 0
IsMarked b id = IsTrue (set.contains b.marked id)

abbrev pub kept_path : Book → ℕ → Path → KeptPath
kept_path b id p = record { list = p.list; weight = p.weight; historical = set.contains b.marked id; birth = p.birth }

-- the kept paths, the single vertices among them
abbrev pub kept_paths : Book → List KeptPath
kept_paths b = map (λ e. kept_path b e.0 e.1) (paths.entries b.arena.paths)

-- no kept path has this list
abbrev pub IsNewList : Book → List ℕ → Type 0
IsNewList b p = (id : ℕ) → IsLive b.arena id → list_of b.arena id ≡ p → ⊥

-- ---- what the calls change

-- the parts of a path, where it has an edge
abbrev pub left_id : Path → ℕ
left_id p = unwrap_or p.left 0

abbrev pub right_id : Path → ℕ
right_id p = unwrap_or p.right 0

-- the lists with a new id, as an extension of l and of r
abbrev pub entered : Known → ℕ → ℕ → ℕ → Known
entered lists id l r = added (paths.insert lists id no_sides) id l r

-- one more path is kept, and not historical
abbrev pub with_kept : Book → ℕ → Path → Book
with_kept b id p =
    record { arena = with_path b.arena id p; marked = b.marked; lists = entered b.lists id (left_id p) (right_id p) }

-- a kept path becomes historical, and the lists are these then
abbrev pub with_mark : Book → ℕ → Known → Book
with_mark b id lists = record { arena = b.arena; marked = set.insert b.marked id; lists = lists }

-- a kept path is historical no more, and the lists are these then
abbrev pub without_mark : Book → ℕ → Known → Book
without_mark b id lists = record { arena = b.arena; marked = set.remove b.marked id; lists = lists }

-- a kept path has another birth
abbrev pub with_new_birth : Book → ℕ → ℕ → Book
with_new_birth b id birth = record { arena = with_birth b.arena id birth; marked = b.marked; lists = b.lists }

-- a path is kept no more; the lists of its parts lack it, in any order
pub record IsForgotten (old new : Book) (id : ℕ) : Type 0 where
  pub arena : new.arena ≡ without_path old.arena id
  pub marked : new.marked ≡ set.remove old.marked id
  pub lists : IsDropped old.lists new.lists id (left_id (path_of old.arena id)) (right_id (path_of old.arena id))

-- the single vertices are kept and historical, and nothing else is
pub record IsOpeningBook (b : Book) (n : ℕ) : Type 0 where
  pub vertices : b.arena.vertices ≡ n
  pub live : (id : ℕ) → IsLive b.arena id → (v : ℕ) × (v < n) × (id ≡ vertex_of b.arena v)

-- ---- what holds of every book

-- the lists know exactly the kept ids, and of each the ids of its extensions: those whose part without the first or
-- without the last vertex it is, and the historical ones of them
pub record HasExtensions (a : Arena) (marked : set.FinSet nat_cmp) (lists : Known) : Type 0 where
  pub known : (id : ℕ) → IsKnown lists id ↔ IsLive a id
  pub left : (k id : ℕ) → Contains (sides_at lists k).left id ↔ (right_of a id ≡ Some k)
  pub right : (k id : ℕ) → Contains (sides_at lists k).right id ↔ (left_of a id ≡ Some k)
  pub left_star : (k id : ℕ) → Contains (sides_at lists k).left_star id
      ↔ ((right_of a id ≡ Some k) × IsTrue (set.contains marked id))
  pub right_star : (k id : ℕ) → Contains (sides_at lists k).right_star id
      ↔ ((left_of a id ≡ Some k) × IsTrue (set.contains marked id))

pub record IsBook (b : Book) : Type 0 where
  pub arena : IsArena b.arena
  pub once : (i j : ℕ) → IsLive b.arena i → IsLive b.arena j → list_of b.arena i ≡ list_of b.arena j → i ≡ j
  pub marked_live : (id : ℕ) → IsMarked b id → IsLive b.arena id
  pub singles : (v : ℕ) → v < b.arena.vertices → IsMarked b (vertex_of b.arena v)
  pub left_marked : (id l : ℕ) → left_of b.arena id ≡ Some l → IsMarked b l
  pub right_marked : (id r : ℕ) → right_of b.arena id ≡ Some r → IsMarked b r
  pub extensions : HasExtensions b.arena b.marked b.lists

-- ---- what the book's readers give

-- a kept path of the pair that no kept path of the pair is below
pub record IsLeastKeptId (b : Book) (x y id : ℕ) : Type 0 where
  pub live : IsLive b.arena id
  pub ends : HasEnds b.arena id x y
  pub least : (q : ℕ) → IsLive b.arena q → HasEnds b.arena q x y → id_cmp b.arena q id ≡ Less → ⊥

abbrev pub KeepsNone : Book → ℕ → ℕ → Type 0
KeepsNone b x y = (q : ℕ) → IsLive b.arena q → HasEnds b.arena q x y → ⊥

-- whether a kept path is the least of its pair, where another one is if it is not
pub record TellsLeastKept (b : Book) (x y id : ℕ) (told : Bool) : Type 0 where
  pub yes : told ≡ true → IsLeastKeptId b x y id
  pub no : told ≡ false → (q : ℕ) × (q ≢ id) × IsLeastKeptId b x y q

-- the least kept path of the pair, which is not historical
abbrev pub IsPendingLeast : Book → ℕ → ℕ → ℕ → Type 0
IsPendingLeast b x y id = IsLeastKeptId b x y id × (IsMarked b id → ⊥)

-- the pair has no kept path, or its least one is historical
abbrev pub HasNoPendingLeast : Book → ℕ → ℕ → Type 0
HasNoPendingLeast b x y = KeepsNone b x y ⊎ ((id : ℕ) × IsLeastKeptId b x y id × IsMarked b id)

-- no pair of vertices has a least kept path that is not historical
abbrev pub HasNonePending : Book → Type 0
HasNonePending b = (x y : ℕ) → x < b.arena.vertices → y < b.arena.vertices → HasNoPendingLeast b x y

-- these are the least kept paths of the pairs of vertices below n that are not historical, each once
pub record ArePendingLeasts (b : Book) (n : ℕ) (ids : List ℕ) : Type 0 where
  pub pairs : (x y : ℕ) → x < n → y < n → HasNoPendingLeast b x y
      ⊎ ((id : ℕ) × IsPendingLeast b x y id × Contains ids id)
  pub only : (id : ℕ) → Contains ids id → (x : ℕ) × (y : ℕ) × (x < n) × (y < n) × IsPendingLeast b x y id
  pub once : IsOnceEach ids

-- how many kept paths have an edge, and how many of those are historical
abbrev pub PathsCount : Book → ℕ → Type 0
PathsCount b = CountIs (λ p. IsKeptIn (kept_paths b) p × IsWithEdge p)

abbrev pub HistoricalCount : Book → ℕ → Type 0
HistoricalCount b = CountIs (λ p. IsHistoricalIn (kept_paths b) p × IsWithEdge p)
