-- How the fields of classes show what they hold. No public clause cites this module.
use Rattle.std.specs.Prelude.{◌≡◌, ℕ, ◌+◌, ◌-◌, ◌*◌, ◌<◌, ◌≤◌, ◌≢◌, ◌⊎◌, ◌/◌, ◌%◌, Bool, bit_and, List, [], ◌∷◌, ◌++◌, length, map, vec_len, vec_capacity, slice_index, slice_index_or, Contains}
use Rattle.apsp_model.specs.declared.TheConstants.{MOST_VERTICES}
use Rattle.weight_classes.specs.declared.buckets.Bucket.{Bucket}
use Rattle.weight_classes.specs.declared.ids.Ids.TheVariants.{Empty}
use Rattle.weight_classes.specs.declared.classes.Classes.TheInside.{Inside}
use Rattle.weight_classes.specs.declared.buckets.TheConstants.{NO_BUCKET}
use Rattle.weight_classes.specs.declared.turns.Turn.{Turn}
use Rattle.weight_classes.specs.Turns.{AreInOrder}
use Rattle.weight_classes.specs.Ids.{ids_in, need_of}
use Rattle.weight_classes.specs.Classes.{Classes, Rank, IsLower, ranked}

-- ---- buckets

abbrev pub rank_in : Bucket → Rank
rank_in b = record { weight = b.weight; hops = b.hops }

abbrev pub ranks_in : List Bucket → List Rank
ranks_in bs = map rank_in bs

abbrev pub nexts_in : List Bucket → List ℕ
nexts_in bs = map (λ b. b.next) bs

abbrev pub idss_in : List Bucket → List (List ℕ)
idss_in bs = map (λ b. ids_in b.ids) bs

abbrev pub no_rank : Rank
no_rank = record { weight = 0; hops = 0 }

abbrev pub rank_at : List Rank → ℕ → Rank
rank_at rs i = slice_index_or rs i no_rank

abbrev pub bucket_ids : List (List ℕ) → ℕ → List ℕ
bucket_ids idss i = slice_index_or idss i []

-- the ids of each bucket, with its rank
abbrev pub held_by : List Rank → List (List ℕ) → List (Rank × ℕ)
held_by [] idss = []
held_by (r ∷ rs) [] = []
held_by (r ∷ rs) (ids ∷ idss) = ranked r ids ++ held_by rs idss

abbrev pub held_in : List Bucket → List (Rank × ℕ)
held_in bs = held_by (ranks_in bs) (idss_in bs)

-- what buckets and marks show
abbrev pub shown_by : ℕ → List Bucket → List Bool → Classes
shown_by n bs won = record { vertices = n; held = held_in bs; won = won }

abbrev pub view_of : Inside → Classes
view_of c = shown_by c.n c.buckets.items c.won.items

abbrev pub needs_in : List Bucket → List ℕ
needs_in bs = map (λ b. need_of b.ids) bs

abbrev pub need_at : List ℕ → ℕ → ℕ
need_at needs i = slice_index_or needs i 0

-- the keys of no bucket need more room than this
abbrev pub AreRoomy : ℕ → List Bucket → Type 0
AreRoomy most bs = (i : ℕ) → need_at (needs_in bs) i ≤ most

-- one bucket more at most, which has no ids
abbrev pub IsBucketAdded : List Bucket → List Bucket → Type 0
IsBucketAdded old new =
    (new ≡ old) ⊎ ((b : Bucket) × (b.ids ≡ Empty) × (b.hops < MOST_VERTICES) × (new ≡ old ++ b ∷ []))

-- ---- the bucket of a rank

-- the cell of a rank
unfoldable pub cell_of : ℕ → Rank → ℕ
cell_of cells r =
    bit_and ((r.weight + r.hops) % 18446744073709551616 * 11400714819323198485 % 18446744073709551616 / 4294967296)
    (cells - 1)

-- p is the last bucket of the cell below m, or none is
abbrev pub IsLatestInCell : ℕ → List Rank → ℕ → ℕ → ℕ → Type 0
IsLatestInCell cells rs cell p m =
    ((p ≡ NO_BUCKET) × ((j : ℕ) → j < m → cell_of cells (rank_at rs j) ≢ cell))
    ⊎ ((p < m) × (cell_of cells (rank_at rs p) ≡ cell)
    × ((j : ℕ) → p < j → j < m → cell_of cells (rank_at rs j) ≢ cell))

pub record AreIndexed (cells : ℕ) (heads : List ℕ) (rs : List Rank) (nexts : List ℕ) : Type 0 where
  pub some : 0 < cells
  pub size : length heads ≡ cells
  pub few : length rs ≤ NO_BUCKET
  pub many : length nexts ≡ length rs
  pub once : (i j : ℕ) → i < length rs → j < length rs → rank_at rs i ≡ rank_at rs j → i ≡ j
  pub latest : (cell : ℕ) → cell < cells → IsLatestInCell cells rs cell (slice_index heads cell) (length rs)
  pub chained : (i : ℕ) → i < length rs → IsLatestInCell cells rs (cell_of cells (rank_at rs i)) (slice_index nexts i) i

abbrev pub IsIndexed : List ℕ → List Bucket → Type 0
IsIndexed heads bs = AreIndexed (length heads) heads (ranks_in bs) (nexts_in bs)

-- ---- which bucket comes next

-- ranks by one number, where the numbers of edges are below MOST_VERTICES
abbrev pub key_of : Rank → ℕ
key_of r = r.weight * MOST_VERTICES + r.hops

-- the turn of a bucket with this rank
abbrev pub turn_of : Rank → ℕ → Turn
turn_of r i = record { key = key_of r; bucket = i }

-- the turns are of buckets, and each bucket with an id has one
pub record AreTurns (turns : List Turn) (rs : List Rank) (idss : List (List ℕ)) : Type 0 where
  pub ordered : AreInOrder turns
  pub many : length idss ≡ length rs
  pub few : (i : ℕ) → i < length rs → (rank_at rs i).hops < MOST_VERTICES
  pub known : (t : Turn) → Contains turns t → (t.bucket < length rs) × (t.key ≡ key_of (rank_at rs t.bucket))
  pub each : (i : ℕ) → i < length rs → 0 < length (bucket_ids idss i) → Contains turns (turn_of (rank_at rs i) i)

abbrev pub IsQueue : List Turn → List Bucket → Type 0
IsQueue turns bs = AreTurns turns (ranks_in bs) (idss_in bs)

-- i is a bucket with ids, and each with ids ranks as high or higher
pub record IsNextBucket (bs : List Bucket) (i : ℕ) : Type 0 where
  pub inside : i < length bs
  pub some : 0 < length (bucket_ids (idss_in bs) i)
  pub least : (j : ℕ) → j < length bs → 0 < length (bucket_ids (idss_in bs) j)
      → IsLower (rank_at (ranks_in bs) j) (rank_at (ranks_in bs) i) → ⊥

abbrev pub AreEmpty : List Bucket → Type 0
AreEmpty bs = (i : ℕ) → length (bucket_ids (idss_in bs) i) ≡ 0

-- whether each pair is won, and the ids of each rank, with room for the keys of as many as one has
pub record IsSound (c : Inside) : Type 0 where
  pub pairs : vec_len c.won ≡ c.n * c.n
  pub room : AreRoomy (vec_capacity c.keys) c.buckets.items
  pub indexed : IsIndexed c.heads.items c.buckets.items
  pub queue : IsQueue c.turns.items c.buckets.items
