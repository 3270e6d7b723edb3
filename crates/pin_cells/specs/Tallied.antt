-- What contracts see of a tally of tries, and how a try changes it.
use Rattle.std.specs.Prelude.{◌≡◌, ◌≢◌, ℕ, ◌+◌, ◌-◌, ◌^◌, ◌⊎◌, min, List, sum, slice_index, Option, Some}

-- the last ask that met a pin of another number
pub record Ask : Type 0 where
  pub slot : ℕ
  pub asked : ℕ
  pub found : ℕ

-- the turns that were lost at each slot, how often a pin had another number, and the last such ask
pub record Tally : Type 0 where
  pub lost : List ℕ
  pub other : ℕ
  pub ask : Option Ask

-- all turns that were lost, held at the last value of a `u64`
abbrev pub lost_of : Tally → ℕ
lost_of t = min (sum t.lost) (2 ^ 64 - 1)

-- the count rose by one, or stands at its last value
abbrev pub RoseByOne : ℕ → ℕ → Type 0
RoseByOne before now = now ≡ min (before + 1) (2 ^ 64 - 1)

-- the turns that were lost at one slot rose, and nothing else changed
pub record LosesAt (before now : Tally) (slot : ℕ) : Type 0 where
  pub rose : RoseByOne (slice_index before.lost slot) (slice_index now.lost slot)
  pub others : (k : ℕ) → k ≢ slot → slice_index now.lost k ≡ slice_index before.lost k
  pub other : now.other ≡ before.other
  pub ask : now.ask ≡ before.ask

-- a pin of the slot had another number than the one that was asked, and nothing else changed
pub record MeetsOther (before now : Tally) (slot asked found : ℕ) : Type 0 where
  pub rose : RoseByOne before.other now.other
  pub differ : found ≢ asked
  pub lost : now.lost ≡ before.lost
  pub ask : now.ask ≡ Some (record { slot = slot; asked = asked; found = found })

-- a turn at the slot was lost, or it was read and had another number
abbrev pub MissesPin : Tally → Tally → ℕ → ℕ → Type 0
MissesPin before now slot number =
    LosesAt before now slot ⊎ ((found : ℕ) × MeetsOther before now slot number found)
