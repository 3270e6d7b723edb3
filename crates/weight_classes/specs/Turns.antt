-- Turns as a binary heap, in which none has a lower key than the one above it. No public clause cites this module.
use Rattle.std.specs.Prelude.{◌≡◌, ◌≢◌, ℕ, ◌+◌, ◌*◌, ◌<◌, ◌≤◌, ◌⊎◌, List, length, slice_index_or, Contains}
use Rattle.weight_classes.specs.declared.turns.Turn.{Turn}

abbrev pub no_turn : Turn
no_turn = record { key = 0; bucket = 0 }

abbrev pub key_at : List Turn → ℕ → ℕ
key_at turns i = (slice_index_or turns i no_turn).key

-- the place p is the one above the place i, (i - 1) div 2
abbrev pub IsChildOf : ℕ → ℕ → Type 0
IsChildOf i p = (i ≡ 2 * p + 1) ⊎ (i ≡ 2 * p + 2)

-- of two places side by side, with the right one given
abbrev pub IsBeside : ℕ → ℕ → Type 0
IsBeside i right = (i + 1 ≡ right) ⊎ (i ≡ right)

abbrev pub AreInOrder : List Turn → Type 0
AreInOrder turns = (i p : ℕ) → IsChildOf i p → i < length turns → key_at turns p ≤ key_at turns i

-- the turns below a place are in order with the one above it
abbrev pub AreAcross : (ℕ → ℕ) → ℕ → ℕ → Type 0
AreAcross key n at = (i p : ℕ) → IsChildOf i at → IsChildOf at p → i < n → key p ≤ key i

-- of n turns with these keys, only the one at a place may have a lower key than the one above it
abbrev pub MayRise : (ℕ → ℕ) → ℕ → ℕ → Type 0
MayRise key n at = ((i p : ℕ) → IsChildOf i p → i < n → i ≢ at → key p ≤ key i) × AreAcross key n at

-- of n turns with these keys, only those below a place may have a lower key than the one there
abbrev pub MaySink : (ℕ → ℕ) → ℕ → ℕ → Type 0
MaySink key n at = ((i p : ℕ) → IsChildOf i p → i < n → p ≢ at → key p ≤ key i) × AreAcross key n at

-- one of the turns, and none of them has a lower key
pub record IsFirst (t : Turn) (turns : List Turn) : Type 0 where
  pub there : Contains turns t
  pub least : (u : Turn) → Contains turns u → t.key ≤ u.key
