-- The pool of versions as a machine: its states, and the events that lead from one to another.
use Rattle.std.specs.Prelude.{◌≡◌, ◌≢◌, ℕ, zero, suc, ◌+◌, ◌<◌, Bool, nat_eq, nat_lt, if◌then◌else◌, List, [], ◌∷◌, ◌++◌, length, replicate, slice_index, slice_set, slice_get, Option, Some, None}

-- a number with the slot in which it was published
pub record Mark : Type 0 where
  pub number : ℕ
  pub slot : ℕ

-- A reader's pin on a slot, with the number of the slot's content. It is granted where that is the
-- number which the reader came for.
pub record MachinePin : Type 0 where
  pub reader : ℕ
  pub slot : ℕ
  pub number : ℕ
  pub granted : Bool

-- The number of each slot's content, the slot that is claimed, the pins, the mark that is announced,
-- the mark that is put and not yet announced, the mark that each reader has seen, and the notes.
pub record MachineState : Type 0 where
  pub contents : List ℕ
  pub claimed : Option ℕ
  pub pins : List MachinePin
  pub announced : Mark
  pub ready : Option Mark
  pub seen : List Mark
  pub notes : List Mark

-- `load r`: the reader r reads the announced mark. `pin r`: it pins the slot of the mark that it has
-- seen. `unpin i`: the pin with this place in the list is given back. `claim k`: the publisher claims
-- the slot k. `put`: it puts the next version into the claimed slot. `announce`: it announces what it
-- put. `note`: it writes a note of the announced mark. `learn i r`: the reader r learns the note i.
pub data Event : Type 0 where
  load : ℕ → Event
  pin : ℕ → Event
  unpin : ℕ → Event
  claim : ℕ → Event
  put : Event
  announce : Event
  note : Event
  learn : ℕ → ℕ → Event

-- number lo in each slot, announced in slot 0 and seen by each reader, and nothing else
abbrev pub start : ℕ → ℕ → ℕ → MachineState
start lo slots readers = record {
  contents = replicate slots lo;
  claimed = None;
  pins = [];
  announced = record { number = lo; slot = 0 };
  ready = None;
  seen = replicate readers (record { number = lo; slot = 0 });
  notes = [];
}

-- of two marks the one with the greater number, and the first where these are equal
abbrev pub later_of : Mark → Mark → Mark
later_of a b = if nat_lt a.number b.number then b else a

-- nobody pins the slot
abbrev pub IsUnpinned : MachineState → ℕ → Type 0
IsUnpinned s slot = (i : ℕ) (p : MachinePin) → slice_get s.pins i ≡ Some p → p.slot ≢ slot

-- the list without the entry at this place
abbrev pub without_at : {A : Type 0} → List A → ℕ → List A
without_at [] i = []
without_at (x ∷ xs) zero = xs
without_at (x ∷ xs) (suc i) = x ∷ without_at xs i

-- the pin that the reader r gets on the slot of this mark
abbrev pub pin_of : MachineState → ℕ → Mark → MachinePin
pin_of s r m = record {
  reader = r;
  slot = m.slot;
  number = slice_index s.contents m.slot;
  granted = nat_eq (slice_index s.contents m.slot) m.number;
}

-- the mark that the next version gets in this slot
abbrev pub next_mark : MachineState → ℕ → Mark
next_mark s slot = record { number = s.announced.number + 1; slot = slot }

-- The event is allowed in the first state, and leads to the second.
pub data Steps : MachineState → Event → MachineState → Type 0 where
  loads : (s : MachineState) (r : ℕ) → r < length s.seen
      → Steps s (load r) (record s { seen = slice_set s.seen r s.announced })
  pins : (s : MachineState) (r : ℕ) (m : Mark) → slice_get s.seen r ≡ Some m → s.claimed ≢ Some m.slot
      → m.slot < length s.contents
      → Steps s (pin r) (record s { pins = s.pins ++ pin_of s r m ∷ [] })
  unpins : (s : MachineState) (i : ℕ) → i < length s.pins
      → Steps s (unpin i) (record s { pins = without_at s.pins i })
  claims : (s : MachineState) (slot : ℕ) → slot < length s.contents → s.claimed ≡ None → s.ready ≡ None
      → IsUnpinned s slot → slot ≢ s.announced.slot
      → Steps s (claim slot) (record s { claimed = Some slot })
  puts : (s : MachineState) (slot : ℕ) → s.claimed ≡ Some slot
      → Steps s put (record s {
        contents = slice_set s.contents slot (s.announced.number + 1);
        claimed = None;
        ready = Some (next_mark s slot);
      })
  announces : (s : MachineState) (m : Mark) → s.ready ≡ Some m
      → Steps s announce (record s { announced = m; ready = None })
  notes_one : (s : MachineState)
      → Steps s note (record s { notes = s.notes ++ s.announced ∷ [] })
  learns : (s : MachineState) (i r : ℕ) (m k : Mark) → slice_get s.notes i ≡ Some m → slice_get s.seen r ≡ Some k
      → Steps s (learn i r) (record s { notes = without_at s.notes i; seen = slice_set s.seen r (later_of k m) })

-- the events, each allowed in its turn, lead from the first state to the second
pub data Runs : MachineState → List Event → MachineState → Type 0 where
  stays : (s : MachineState) → Runs s [] s
  goes : (s t u : MachineState) (e : Event) (es : List Event) → Steps s e t → Runs t es u → Runs s (e ∷ es) u
