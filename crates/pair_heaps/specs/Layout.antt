-- How the heap of one pair shows its ids. No public clause cites this module.
use Rattle.std.specs.Prelude.{◌≡◌, ℕ, zero, suc, ◌-◌, ◌≤◌, Option, Some, None, length, slice_get, slice_index, take}
use Rattle.apsp_model.specs.Walk.{IsOnceEach}
use Rattle.pair_heaps.specs.declared.pair.Ids.{Ids}
use Rattle.pair_heaps.specs.declared.pair.Ids.TheVariants.{InPlace, InBlock, Grown}
use Rattle.pair_heaps.specs.Heaps.{Pair}

abbrev pub pair_of : Ids → Pair
pair_of (InPlace len few) = record { held = take len few; spare = 3 - len }
pair_of (InBlock len front block) = record { held = take len block.value; spare = 8 - len }
pair_of (Grown some front tall) = tall.value

-- an id, and none where the number is 0
abbrev pub front_of : ℕ → ℕ → Option ℕ
front_of zero front = None
front_of (suc k) front = Some front

-- no more ids than there is room for, and none twice; the first of a block or a tall heap is noted
abbrev pub IsPairHeap : Ids → Type 0
IsPairHeap (InPlace len few) = (len ≤ 3) × IsOnceEach (take len few)
IsPairHeap (InBlock len front block) =
    (len ≤ 8) × IsOnceEach (take len block.value) × (front ≡ slice_index block.value 0) × (length block.value ≡ 8)
IsPairHeap (Grown some front tall) = IsOnceEach tall.value.held × (slice_get tall.value.held 0 ≡ front_of some front)

abbrev pub id_count : Ids → ℕ
id_count (InPlace len few) = len
id_count (InBlock len front block) = len
id_count (Grown some front tall) = some

abbrev pub front_id : Ids → ℕ
front_id (InPlace len few) = slice_index few 0
front_id (InBlock len front block) = front
front_id (Grown some front tall) = front

abbrev pub with_len : Ids → ℕ → Ids
with_len (InPlace len few) to = InPlace to few
with_len (InBlock len front block) to = InBlock to front block
with_len (Grown some front tall) to = Grown to front tall
