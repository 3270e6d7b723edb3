-- How the run of a mode ends, whatever it replies. No public clause cites this module.
use Rattle.std.specs.Prelude.{◌≡◌, ℕ, ◌+◌, ◌≤◌, Bool, List, [], ◌++◌, length, Some, Result, Ok, Err}
use Rattle.std.specs.Io.KnownBytes.{Consumes, IsAtEnd, Appends}
use Rattle.std.specs.declared.alloc.Global.{Global}
use Rattle.std.specs.declared.vec.Vec.{Vec}
use Rattle.apsp_io.specs.Streams.{Rose}
use Rattle.network_replies.specs.Streams.{SourceSeen, Streams}
use Rattle.command_line.specs.declared.words.Mode.{Mode}
use Rattle.network_replies.specs.declared.stop.Stop.{Stop}
use Rattle.network_replies.specs.declared.stop.Stop.TheVariants as stop
use Rattle.apsp_service.specs.declared.run.TheConstants.{MOST_INPUT}
use Rattle.apsp_service.specs.Outcome.{status_after, IsCheck, IsAnswered, IsStoppedEarly, GotFront}

-- the sink got a front of what the session replies to all that the source had, where that is told
pub record IsShort (mode : Mode) (before now : Streams) : Type 0 where
  pub bytes : List ℕ
  pub taken : Consumes before.source.left now.source.left bytes
  pub few : length bytes ≤ MOST_INPUT + 1
  pub front : (more : List ℕ) → now.source.left ≡ Some more
      → GotFront mode (bytes ++ more) before.sink.held now.sink.held

-- what a stop leaves
abbrev pub StopsAs : Mode → Stop → Streams → Streams → Type 0
StopsAs mode stop.Source before now =
    (s : IsStoppedEarly mode before now) × (length s.bytes ≤ MOST_INPUT)
    × Rose before.source.faults now.source.faults
StopsAs mode stop.Sink before now = IsShort mode before now × Rose before.sink.faults now.sink.faults
StopsAs mode stop.Memory before now =
    IsShort mode before now × (IsCheck mode → Appends before.sink.held now.sink.held [])
StopsAs mode stop.Limit before now =
    (s : IsStoppedEarly mode before now) × (length s.bytes ≡ MOST_INPUT + 1)

-- how the run ends
abbrev pub EndsAs : Mode → Result Bool Stop → Streams → Streams → Type 0
EndsAs mode (Ok refused) before now =
    (a : IsAnswered mode before now (status_after (Ok refused))) × (length a.bytes ≤ MOST_INPUT)
EndsAs mode (Err e) before now = StopsAs mode e before now

-- a stop while an input is collected of which these bytes were taken
abbrev pub StopsTaking : Stop → SourceSeen → SourceSeen → List ℕ → Type 0
StopsTaking stop.Source before now bytes = (length bytes ≤ MOST_INPUT) × Rose before.faults now.faults
StopsTaking stop.Sink before now bytes = ⊥
StopsTaking stop.Memory before now bytes = length bytes ≤ MOST_INPUT
StopsTaking stop.Limit before now bytes = length bytes ≡ MOST_INPUT + 1

-- one piece more was put behind the bytes, and nothing only at the end
pub record TookMore (before now : SourceSeen) (old new : List ℕ) (count : ℕ) : Type 0 where
  pub piece : List ℕ
  pub size : length piece ≡ count
  pub taken : Consumes before.left now.left piece
  pub put : new ≡ old ++ piece
  pub few : length new ≤ MOST_INPUT
  pub last : count ≡ 0 → IsAtEnd now.left

-- how a piece more behind the bytes ends
abbrev pub MoreEnds : Result ℕ Stop → SourceSeen → SourceSeen → List ℕ → List ℕ → Type 0
MoreEnds (Ok count) before now old new = TookMore before now old new count
MoreEnds (Err e) before now old new =
    (piece : List ℕ) × Consumes before.left now.left piece × StopsTaking e before now (old ++ piece)

-- all was taken
pub record TookAll (before now : SourceSeen) (bytes : List ℕ) : Type 0 where
  pub taken : Consumes before.left now.left bytes
  pub few : length bytes ≤ MOST_INPUT
  pub last : IsAtEnd now.left

-- how the collecting of all ends
abbrev pub AllTaken : Result (Vec ℕ Global) Stop → SourceSeen → SourceSeen → Type 0
AllTaken (Ok v) before now = TookAll before now v.items
AllTaken (Err e) before now =
    (bytes : List ℕ) × Consumes before.left now.left bytes × StopsTaking e before now bytes
