-- The reply to `stats`: how much the updates did, and what is kept.
use Rattle.std.specs.Prelude.{◌≡◌, ℕ, Bool, List}
use Rattle.apsp_model.specs.Command.{Command}
use Rattle.apsp_model.specs.Counts.{Counts, CountsAre}
use Rattle.network_replies.specs.Replies.{stats_text}

-- the counts after these commands on n vertices, with or without smoothing
abbrev pub IsStatsReply : ℕ → Bool → List Command → List ℕ → Type 0
IsStatsReply n smooth commands text = (c : Counts) × CountsAre n smooth commands c × (text ≡ stats_text c)
