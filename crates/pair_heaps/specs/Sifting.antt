-- Lists of ids that are heaps but for one entry. No public clause cites this module.
use Rattle.std.specs.Prelude.{◌≡◌, ◌≢◌, ℕ, ◌+◌, ◌*◌, ◌<◌, ◌⊎◌, List, length, slice_index, Contains}
use Rattle.path_arena.specs.Arena.{Arena, IsLive}
use Rattle.pair_heaps.specs.Heaps.{IsIdBelow}

-- the place p is (i - 1) div 2
abbrev pub IsChild : ℕ → ℕ → Type 0
IsChild i p = (i ≡ 2 * p + 1) ⊎ (i ≡ 2 * p + 2)

-- the entry at i is not below that at p
abbrev pub IsUpon : Arena → List ℕ → ℕ → ℕ → Type 0
IsUpon a xs i p = IsIdBelow a (slice_index xs i) (slice_index xs p) → ⊥

-- the children of an entry are not below its parent
abbrev pub IsBridged : Arena → List ℕ → ℕ → Type 0
IsBridged a xs at = (i p : ℕ) → IsChild i at → IsChild at p → i < length xs → IsUpon a xs i p

-- only the entry at a place may be below its parent
abbrev pub IsRising : Arena → List ℕ → ℕ → Type 0
IsRising a xs at = ((i p : ℕ) → IsChild i p → i < length xs → i ≢ at → IsUpon a xs i p) × IsBridged a xs at

-- only the children of the entry at a place may be below it
abbrev pub IsSinking : Arena → List ℕ → ℕ → Type 0
IsSinking a xs at = ((i p : ℕ) → IsChild i p → i < length xs → p ≢ at → IsUpon a xs i p) × IsBridged a xs at

-- only the entry at a place may be below its parent or above a child
abbrev pub IsLoose : Arena → List ℕ → ℕ → Type 0
IsLoose a xs at = ((i p : ℕ) → IsChild i p → i < length xs → i ≢ at → p ≢ at → IsUpon a xs i p) × IsBridged a xs at

abbrev pub AreLive : Arena → List ℕ → Type 0
AreLive a xs = (q : ℕ) → Contains xs q → IsLive a q
