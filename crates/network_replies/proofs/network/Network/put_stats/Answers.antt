use Rattle.history_engine.specs.Answers.{numbers}
use Rattle.network_replies.proofs.Texts.{stats_replied}
use Rattle.network_replies.proofs.network.Network.put_stats.Goals as goal

pub returns : goal.returns
returns c =
    λ commands stands. stats_replied _ _ _ commands (numbers c.counts.result) _ _ c.self.view_is
    (c.counts.ensures.counts commands) stands c.put_stats.ensures
