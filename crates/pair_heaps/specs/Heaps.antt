-- The ids that are held of each pair of vertices, and when they fit an arena.
use Rattle.std.specs.Prelude.{◌≡◌, ◌≢◌, ℕ, ◌+◌, ◌-◌, ◌*◌, ◌/◌, ◌<◌, ◌≤◌, ◌⊎◌, ◌↔◌, List, [], if◌then◌else◌, nat_lt, Some, length, slice_index, slice_index_or, refl, Contains, Bool, true, false}
use Rattle.std.specs.Coded.{Coded, code_by, coded×, coded_ℕ, coded_list}
use Rattle.std.specs.declared.cmp.Ordering.TheVariants.{Less}
use Rattle.apsp_model.specs.Walk.{IsOnceEach, first, last}
use Rattle.path_arena.specs.Arena.{Arena, IsLive, list_of, weight_of_id, id_cmp}

-- the held ids of a pair, and how many more find room
pub record Pair : Type 0 where
  pub held : List ℕ
  pub spare : ℕ

-- the number of vertices, and the pairs row by row
pub record Heaps : Type 0 where
  pub vertices : ℕ
  pub pairs : List Pair

abbrev pub pair_code : Coded Pair
pair_code =
    code_by (List ℕ × ℕ) (coded× (coded_list coded_ℕ) coded_ℕ) (λ p. (p.held, p.spare))
    (λ t. record { held = t.0; spare = t.1 }) (λ _. refl)

abbrev pub heaps_code : Coded Heaps
heaps_code =
    code_by (ℕ × List Pair) (coded× coded_ℕ (coded_list pair_code)) (λ h. (h.vertices, h.pairs))
    (λ t. record { vertices = t.0; pairs = t.1 }) (λ _. refl)

abbrev pub no_pair : Pair
no_pair = record { held = []; spare = 0 }

-- the place of the pair from x to y in rows of n, and a place behind all rows where y is no vertex
abbrev pub place_of : ℕ → ℕ → ℕ → ℕ
place_of n x y = if nat_lt y n then x * n + y else n * n

abbrev pub pair_at : Heaps → ℕ → ℕ → Pair
pair_at h x y = slice_index_or h.pairs (place_of h.vertices x y) no_pair

abbrev pub held_at : Heaps → ℕ → ℕ → List ℕ
held_at h x y = (pair_at h x y).held

abbrev pub spare_at : Heaps → ℕ → ℕ → ℕ
spare_at h x y = (pair_at h x y).spare

abbrev pub IsHeld : Heaps → ℕ → Type 0
IsHeld h id = (x : ℕ) × (y : ℕ) × Contains (held_at h x y) id

abbrev pub IsIdBelow : Arena → ℕ → ℕ → Type 0
IsIdBelow a p q = id_cmp a p q ≡ Less

-- no entry at a place i above 0 is below the one at the place (i - 1) div 2
abbrev pub IsHeap : Arena → List ℕ → Type 0
IsHeap a ids = (i : ℕ) → 0 < i → i < length ids → IsIdBelow a (slice_index ids i) (slice_index ids ((i - 1) / 2)) → ⊥

-- x and y are the ends of the path of an id
abbrev pub HasEnds : Arena → ℕ → ℕ → ℕ → Type 0
HasEnds a id x y = (first (list_of a id) ≡ Some x) × (last (list_of a id) ≡ Some y)

-- the heaps fit the arena: it has as many vertices, each held id is live in it and has there the ends
-- of its pair, and the ids of each pair stand as a binary heap
pub record HeapsFit (h : Heaps) (a : Arena) : Type 0 where
  pub vertices : a.vertices ≡ h.vertices
  pub live : (x y id : ℕ) → Contains (held_at h x y) id → IsLive a id
  pub ends : (x y id : ℕ) → Contains (held_at h x y) id → HasEnds a id x y
  pub arranged : (x y : ℕ) → IsHeap a (held_at h x y)

-- the two arenas have as many vertices, and the same live path with the same weight under each held id
pub record AgreeOnHeapIds (h : Heaps) (a b : Arena) : Type 0 where
  pub vertices : b.vertices ≡ a.vertices
  pub live : (id : ℕ) → IsHeld h id → IsLive b id
  pub lists : (id : ℕ) → IsHeld h id → list_of b id ≡ list_of a id
  pub weights : (id : ℕ) → IsHeld h id → weight_of_id b id ≡ weight_of_id a id

-- only the pair from x to y is changed
pub record ChangesOnly (old new : Heaps) (x y : ℕ) : Type 0 where
  pub vertices : new.vertices ≡ old.vertices
  pub others : (u v : ℕ) → (u ≡ x → v ≡ y → ⊥) → pair_at new u v ≡ pair_at old u v

-- the ids with one more, each once, in any order
pub record IsWith (id : ℕ) (old new : List ℕ) : Type 0 where
  pub ids : (q : ℕ) → Contains new q ↔ (Contains old q ⊎ (q ≡ id))
  pub once : IsOnceEach new

-- the ids but this one, each once, in any order
pub record IsAllBut (id : ℕ) (old new : List ℕ) : Type 0 where
  pub ids : (q : ℕ) → Contains new q ↔ (Contains old q × (q ≢ id))
  pub once : IsOnceEach new

-- the pair has room for one more id
pub record IsReserved (old new : Heaps) (x y : ℕ) : Type 0 where
  pub only : ChangesOnly old new x y
  pub held : held_at new x y ≡ held_at old x y
  pub spare : 1 ≤ spare_at new x y

pub record IsInserted (old new : Heaps) (id x y : ℕ) : Type 0 where
  pub only : ChangesOnly old new x y
  pub held : IsWith id (held_at old x y) (held_at new x y)
  pub spare : spare_at old x y ≤ spare_at new x y + 1

pub record IsRemoved (old new : Heaps) (id x y : ℕ) : Type 0 where
  pub only : ChangesOnly old new x y
  pub held : IsAllBut id (held_at old x y) (held_at new x y)
  pub spare : spare_at old x y ≤ spare_at new x y

-- held of the pair, and none of those is below it in any arena that fits
pub record IsLeastHeld (h : Heaps) (x y id : ℕ) : Type 0 where
  pub held : Contains (held_at h x y) id
  pub least : (a : Arena) → HeapsFit h a → (q : ℕ) → Contains (held_at h x y) q → IsIdBelow a q id → ⊥

-- held of the pair, and in this arena none of those is below it
pub record IsLeastIn (a : Arena) (h : Heaps) (x y id : ℕ) : Type 0 where
  pub held : Contains (held_at h x y) id
  pub least : (q : ℕ) → Contains (held_at h x y) q → IsIdBelow a q id → ⊥

-- whether an id of the pair is the least in the heaps that hold it. Where it is not, the others, which
-- differ in this id alone, have the same least one
pub record TellsLeast (a : Arena) (told : Bool) (with_id without_id : Heaps) (id x y : ℕ) : Type 0 where
  pub yes : told ≡ true → IsLeastIn a with_id x y id
  pub no : told ≡ false → (q : ℕ) × IsLeastIn a with_id x y q × IsLeastIn a without_id x y q
