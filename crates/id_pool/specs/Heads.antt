-- Where a list stands, and what a change of it leaves of the others. No public clause cites this module.
use Rattle.std.specs.Prelude.{◌≡◌, ◌≢◌, ℕ, ◌+◌, ◌<◌, ◌≤◌, nat_lt, List, [], ◌∷◌, ◌++◌, length, take, drop, slice_index, if◌then◌else◌}
use Rattle.id_pool.specs.declared.head.Head.{Head}
use Rattle.id_pool.specs.Lists.{Held}
use Rattle.id_pool.specs.Blocks.{Owner, Of, HasOneOwnerEach, Owns, OwnerKeeps, room_of}

-- a list in place, with its length, its marks and its three places, or in a block, with its level, length, place and
-- marks
pub data Shape : Type 0 where
  Near : ℕ → ℕ → List ℕ → Shape
  Far : ℕ → ℕ → ℕ → ℕ → Shape

-- what `few` tells of a block
abbrev pub far_of : Head → Shape
far_of h = Far (slice_index h.few 1) h.len (slice_index h.few 0) h.mark

abbrev pub shape : Head → Shape
shape h = if nat_lt 3 h.len then far_of h else Near h.len h.mark h.few

abbrev pub ids_of : List ℕ → Shape → List ℕ
ids_of ids (Near len mark few) = take len few
ids_of ids (Far level len place mark) = take len (drop place ids)

abbrev pub len_of : Shape → ℕ
len_of (Near len mark few) = len
len_of (Far level len place mark) = len

abbrev pub mark_of : Shape → ℕ
mark_of (Near len mark few) = mark
mark_of (Far level len place mark) = mark

-- what contracts see of it
abbrev pub held_of : List ℕ → Shape → Held
held_of ids h = record { ids = ids_of ids h; marked = mark_of h }

-- the list k stands here
abbrev pub IsAt : List ℕ → (ℕ → Owner) → ℕ → Shape → Type 0
IsAt ids o k (Near len mark few) = (len ≤ 3) × (mark ≤ len) × (length few ≡ 3)
IsAt ids o k (Far level len place mark) =
    (level < 13) × (len ≤ room_of level) × (mark ≤ len) × (place + room_of level ≤ length ids)
    × Owns o (Of k) place (room_of level)

-- it stands as some list can
pub record IsPlacedInPool (ids free : List ℕ) (h : Shape) : Type 0 where
  pub k : ℕ
  pub o : ℕ → Owner
  pub depth : ℕ → ℕ
  pub stands : HasOneOwnerEach ids free o depth
  pub at : IsAt ids o k h

pub record IsMovedTo (ids ids' free' : List ℕ) (o : ℕ → Owner) (k : ℕ) (h' : Shape) : Type 0 where
  pub o' : ℕ → Owner
  pub depth' : ℕ → ℕ
  pub stands : HasOneOwnerEach ids' free' o' depth'
  pub at : IsAt ids' o' k h'
  pub longer : length ids ≤ length ids'
  pub kept : (j : ℕ) → j ≢ k → OwnerKeeps ids ids' o o' (Of j)

-- whichever list stood in the one place stands in the other now, and the others keep what they have
abbrev pub IsMoved : List ℕ → List ℕ → Shape → List ℕ → List ℕ → Shape → Type 0
IsMoved ids free h ids' free' h' = (o : ℕ → Owner) (depth : ℕ → ℕ) (k : ℕ)
    → HasOneOwnerEach ids free o depth → IsAt ids o k h → IsMovedTo ids ids' free' o k h'

-- an empty list stands behind the others
pub record IsOneMore (old new : List Head) : Type 0 where
  pub head : Head
  pub is : new ≡ old ++ head ∷ []
  pub ids : (ids : List ℕ) → ids_of ids (shape head) ≡ []
  pub mark : mark_of (shape head) ≡ 0
  pub at : (ids : List ℕ) (o : ℕ → Owner) (k : ℕ) → IsAt ids o k (shape head)
