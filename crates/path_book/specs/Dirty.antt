-- The dirty pairs of vertices. No public clause cites this module.
use Rattle.std.specs.Prelude.{◌≡◌, ℕ, ◌<◌, ◌*◌, Bool, true, false, cond, List, length, slice_set, slice_index_or, Contains, refl}
use Rattle.std.specs.Coded.{Coded, code_by, coded×, coded_ℕ, coded_list, coded_bool}
use Rattle.apsp_model.specs.Walk.{IsOnceEach}
use Rattle.pair_heaps.specs.Heaps.{place_of}

-- the number of vertices, whether all pairs are dirty, and the flags row by row
pub record Dirty : Type 0 where
  pub vertices : ℕ
  pub all : Bool
  pub flags : List Bool

abbrev pub dirty_code : Coded Dirty
dirty_code =
    code_by (ℕ × (Bool × List Bool)) (coded× coded_ℕ (coded× coded_bool (coded_list coded_bool)))
    (λ d. (d.vertices, (d.all, d.flags))) (λ t. record { vertices = t.0; all = t.1.0; flags = t.1.1 }) (λ _. refl)

abbrev pub flag_at : Dirty → ℕ → ℕ → Bool
flag_at d x y = slice_index_or d.flags (place_of d.vertices x y) true

abbrev pub is_dirty : Dirty → ℕ → ℕ → Bool
is_dirty d x y = cond d.all true (flag_at d x y)

abbrev pub with_flag : Dirty → ℕ → ℕ → Dirty
with_flag d x y =
    record { vertices = d.vertices; all = d.all; flags = slice_set d.flags (place_of d.vertices x y) true }

abbrev pub with_all : Dirty → Dirty
with_all d = record { vertices = d.vertices; all = true; flags = d.flags }

-- a pair is dirty, and none is dirty no more
pub record IsNoted (old new : Dirty) (x y : ℕ) : Type 0 where
  pub vertices : new.vertices ≡ old.vertices
  pub here : is_dirty new x y ≡ true
  pub still : (u v : ℕ) → is_dirty new u v ≡ false → is_dirty old u v ≡ false

-- each of the pairs is one of vertices below n
abbrev pub AreInside : ℕ → List (ℕ × ℕ) → Type 0
AreInside n pairs = (p : ℕ × ℕ) → Contains pairs p → (p.0 < n) × (p.1 < n)

-- each pair whose flag is up is one of the pairs
abbrev pub AreAllOf : Dirty → List (ℕ × ℕ) → Type 0
AreAllOf d pairs = (x y : ℕ) → x < d.vertices → y < d.vertices → flag_at d x y ≡ true → Contains pairs (x, y)

-- the same pairs are dirty
abbrev pub AreSameDirty : Dirty → Dirty → Type 0
AreSameDirty old new = (x y : ℕ) → x < old.vertices → y < old.vertices → is_dirty new x y ≡ is_dirty old x y

-- these pairs are those whose flags are up, each once
pub record IsListed (n : ℕ) (flags : List Bool) (pairs : List (ℕ × ℕ)) : Type 0 where
  pub places : length flags ≡ n * n
  pub inside : AreInside n pairs
  pub up : (p : ℕ × ℕ) → Contains pairs p → slice_index_or flags (place_of n p.0 p.1) true ≡ true
  pub all : (x y : ℕ) → x < n → y < n → slice_index_or flags (place_of n x y) true ≡ true → Contains pairs (x, y)
  pub once : IsOnceEach pairs
