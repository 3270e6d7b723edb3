-- How a text grows by a reply, and how a sink is given one.
use Rattle.std.specs.Prelude.{◌≡◌, ℕ, List, ◌++◌, Result, Ok, Err}
use Rattle.std.specs.Io.KnownBytes.{Appends}
use Rattle.apsp_io.specs.Streams.{Rose, GrowsByPrefix}
use Rattle.apsp_io.specs.declared.sink.GiveError.{GiveError}
use Rattle.apsp_io.specs.declared.sink.GiveError.TheVariants as give
use Rattle.network_replies.specs.Streams.{SinkSeen}
use Rattle.network_replies.specs.declared.stop.Stop.{Stop}
use Rattle.network_replies.specs.declared.stop.Stop.TheVariants as stop

-- a text grows by a reply of this kind
abbrev pub GrowsBy : (List ℕ → Type 0) → List ℕ → List ℕ → Type 0
GrowsBy IsReply old new = (reply : List ℕ) × IsReply reply × (new ≡ old ++ reply)

-- a text was given, line by line, or a front of it
abbrev pub LinesGiven : {A : Type 0} → Result A Stop → SinkSeen → SinkSeen → List ℕ → Type 0
LinesGiven (Ok a) old new text = Appends old.held new.held text
LinesGiven (Err stop.Source) old new text = ⊥
LinesGiven (Err stop.Sink) old new text = GrowsByPrefix old.held new.held text × Rose old.faults new.faults
LinesGiven (Err stop.Memory) old new text = GrowsByPrefix old.held new.held text
LinesGiven (Err stop.Limit) old new text = ⊥

-- a sink's answer, as that of a session
abbrev pub as_stop : Result (Unit {0}) GiveError → Result (Unit {0}) Stop
as_stop (Ok u) = Ok u
as_stop (Err give.Failed) = Err stop.Sink
as_stop (Err give.Memory) = Err stop.Memory
