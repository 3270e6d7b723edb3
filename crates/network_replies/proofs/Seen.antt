-- A sink as it is seen.
use Rattle.std.specs.Prelude.{ℕ, List, Option}
use Rattle.network_replies.specs.Streams.{SinkSeen}

-- one that holds this, and failed so often
abbrev pub sink_at : Option (List ℕ) → ℕ → SinkSeen
sink_at held faults = record { held = held; faults = faults }
