-- What holds of the pool's machine after every list of allowed events.
use Rattle.std.specs.Prelude.{◌≡◌, ◌≢◌, ℕ, ◌+◌, ◌<◌, ◌≤◌, ◌⊎◌, List, ◌++◌, length, slice_index, slice_get, Some, None}
use Rattle.version_pool.specs.Machine.{Mark, MachinePin, MachineState, Event, Runs, IsUnpinned}

-- a claimed slot is pinned by nobody and is not the announced one, and nothing waits to be announced
abbrev pub IsClaimable : MachineState → ℕ → Type 0
IsClaimable s slot =
    (slot < length s.contents) × IsUnpinned s slot × (slot ≢ s.announced.slot) × (s.ready ≡ None)

-- what was put has the number behind the announced one, and stands in another slot than that
abbrev pub IsPutBehind : MachineState → Mark → Type 0
IsPutBehind s m =
    (m.slot < length s.contents) × (m.number ≡ s.announced.number + 1)
    × (slice_index s.contents m.slot ≡ m.number) × (m.slot ≢ s.announced.slot)

-- a pin's number is the content of its slot, so no content changes while it is pinned
abbrev pub HasContent : MachineState → MachinePin → Type 0
HasContent s p = (p.slot < length s.contents) × (p.number ≡ slice_index s.contents p.slot)

pub record IsSound (s : MachineState) : Type 0 where
  pub room : s.announced.slot < length s.contents
  pub claimed : (slot : ℕ) → s.claimed ≡ Some slot → IsClaimable s slot
  pub pinned : (i : ℕ) (p : MachinePin) → slice_get s.pins i ≡ Some p → HasContent s p
  pub announced : slice_index s.contents s.announced.slot ≡ s.announced.number
  pub ready : (m : Mark) → s.ready ≡ Some m → IsPutBehind s m
  pub contents : (k : ℕ) → k < length s.contents
      → (slice_index s.contents k ≤ s.announced.number)
      ⊎ (s.ready ≡ Some (record { number = slice_index s.contents k; slot = k }))
  pub seen : (r : ℕ) (m : Mark) → slice_get s.seen r ≡ Some m → m.number ≤ s.announced.number
  pub notes : (i : ℕ) (m : Mark) → slice_get s.notes i ≡ Some m → m.number ≤ s.announced.number

-- the announced number does not fall, and neither does what a reader has seen
pub record Rises (s t : MachineState) : Type 0 where
  pub announced : s.announced.number ≤ t.announced.number
  pub seen : (r : ℕ) (m : Mark) → slice_get s.seen r ≡ Some m
      → (k : Mark) × (slice_get t.seen r ≡ Some k) × (m.number ≤ k.number)

-- the number was announced at some point of the events that lead from a to s
abbrev pub WasAnnounced : MachineState → List Event → ℕ → Type 0
WasAnnounced a events n =
    (first : List Event) × (rest : List Event) × (t : MachineState) × (events ≡ first ++ rest) × Runs a first t
    × (t.announced.number ≡ n)

-- Of a pin with the number n that the reader r was granted in s, where the events lead from a to s
-- and u comes later: n was announced by then, r had seen no greater number by then, and has seen n.
pub record IsGranted (a : MachineState) (events : List Event) (s : MachineState) (r n : ℕ) (u : MachineState) :
    Type 0 where
  pub announced : WasAnnounced a events n
  pub not_older : (first rest : List Event) (t : MachineState) (m : Mark) → Runs a first t → Runs t rest s
      → slice_get t.seen r ≡ Some m → m.number ≤ n
  pub seen : (k : Mark) × (slice_get u.seen r ≡ Some k) × (n ≤ k.number)
