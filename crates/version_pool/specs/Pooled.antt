-- What contracts see of a pool and of who uses it.
use Rattle.std.specs.Prelude.{◌≡◌, ◌≢◌, ℕ, ◌+◌, ◌<◌, ◌≤◌, ◌⊎◌, slice_index, Option, Some, None, refl}
use Rattle.std.specs.Coded.{Coded, code_by, coded×, coded_ℕ}
use Rattle.atomic_table.specs.Seated.{TableId, table_id_coded}
use Rattle.graph_store.specs.Plan.{Plan, plan_code}
use Rattle.version_face.specs.Seen.{VersionSeen}
use Rattle.pin_cells.specs.Tallied.{Tally, RoseByOne}
use Rattle.version_pool.specs.declared.word.Mark.{Mark}

-- which pool it is, the plan whose versions stand in its slots, and how many slots there are
pub record Pool : Type 0 where
  pub id : TableId
  pub plan : Plan
  pub slots : ℕ

abbrev pub pool_code : Coded Pool
pool_code =
    code_by (TableId × (Plan × ℕ)) (coded× table_id_coded (coded× plan_code coded_ℕ))
    (λ p. (p.id, (p.plan, p.slots))) (λ t. record { id = t.0; plan = t.1.0; slots = t.1.1 }) (λ _. refl)

-- the pool that it was made with, how many slots and vertices there are, and the announced mark
pub record Publisher : Type 0 where
  pub pool : TableId
  pub slots : ℕ
  pub vertices : ℕ
  pub mark : Mark

-- the pool of its publisher, and the mark that was announced when it was made
pub record Note : Type 0 where
  pub pool : TableId
  pub slots : ℕ
  pub mark : Mark

-- the pool that it was made with, the mark that it has seen, and how often it looked
pub record Reader : Type 0 where
  pub pool : TableId
  pub slots : ℕ
  pub mark : Mark
  pub looks : ℕ

-- made with this pool
pub record IsPublisherOf (pool : Pool) (p : Publisher) : Type 0 where
  pub pool_is : p.pool ≡ pool.id
  pub slots : p.slots ≡ pool.slots
  pub vertices : p.vertices ≡ pool.plan.start.vertices

pub record IsReaderAt (id : TableId) (count : ℕ) (r : Reader) : Type 0 where
  pub pool_is : r.pool ≡ id
  pub slots : r.slots ≡ count

abbrev pub IsReaderOf : Pool → Reader → Type 0
IsReaderOf pool r = IsReaderAt pool.id pool.slots r

pub record IsNoteOf (pool : Pool) (n : Note) : Type 0 where
  pub pool_is : n.pool ≡ pool.id
  pub slots : n.slots ≡ pool.slots

-- the mark that is announced behind another: of the next number, and in another one of the slots
pub record IsNextMark (slots : ℕ) (before m : Mark) : Type 0 where
  pub number : m.number ≡ before.number + 1
  pub other : m.slot ≢ before.slot
  pub inside : m.slot < slots

-- A turn was lost at each slot from this one on, but at the announced one, and nothing else of the
-- tally changed.
pub record LosesFrom (before now : Tally) (slots announced from : ℕ) : Type 0 where
  pub rose : (k : ℕ) → from ≤ k → k < slots → k ≢ announced
      → RoseByOne (slice_index before.lost k) (slice_index now.lost k)
  pub others : (k : ℕ) → (k < from) ⊎ (k ≡ announced) → slice_index now.lost k ≡ slice_index before.lost k
  pub other : now.other ≡ before.other
  pub ask : now.ask ≡ before.ask

-- the number of vertices of the version that a publisher keeps
abbrev pub spare_vertices : Option VersionSeen → ℕ
spare_vertices None = 0
spare_vertices (Some v) = v.graph.vertices
