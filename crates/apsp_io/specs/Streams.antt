-- What a source has left, what a sink holds, and how often either failed.
use Rattle.std.specs.Prelude.{ℕ, ◌+◌, ◌-◌, ◌^◌, ◌≤◌, min, List, take, length, Option}
use Rattle.std.specs.Io.KnownBytes.{Appends}

-- a count after one more; it stays at its last value
abbrev pub next_count : ℕ → ℕ
next_count count = min (count + 1) (2 ^ 64 - 1)

-- a count of faults rose, or stands at its last value
abbrev pub Rose : ℕ → ℕ → Type 0
Rose before now = next_count before ≤ now

-- known bytes grow by a prefix of the piece
abbrev pub GrowsByPrefix : Option (List ℕ) → Option (List ℕ) → List ℕ → Type 0
GrowsByPrefix old new piece = (k : ℕ) × (k ≤ length piece) × Appends old new (take k piece)
