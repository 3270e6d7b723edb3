-- What a source and a sink tell.
use Rattle.std.specs.Prelude.{ℕ, List, Option}
use Rattle.apsp_io.specs.declared.source.Source as of_source
use Rattle.apsp_io.specs.declared.sink.Sink as of_sink

-- what a source has left, where it tells, and how often it failed
pub record SourceSeen : Type 0 where
  pub left : Option (List ℕ)
  pub faults : ℕ

-- what a sink holds, where it tells, and how often it failed
pub record SinkSeen : Type 0 where
  pub held : Option (List ℕ)
  pub faults : ℕ

-- the source and the sink of a run
pub record Streams : Type 0 where
  pub source : SourceSeen
  pub sink : SinkSeen

-- what a source tells
abbrev pub source_seen : {S : Type 0} → of_source.Ghosts S → S → SourceSeen
source_seen tells source = record { left = tells.left source; faults = tells.faults source }

-- what a sink tells
abbrev pub sink_seen : {K : Type 0} → of_sink.Ghosts K → K → SinkSeen
sink_seen tells sink = record { held = tells.held sink; faults = tells.faults sink }

-- what both tell
abbrev pub streams : {S K : Type 0} → of_source.Ghosts S → of_sink.Ghosts K → S → K → Streams
streams source_tells sink_tells source sink =
    record { source = source_seen source_tells source; sink = sink_seen sink_tells sink }
