use Rattle.network_replies.proofs.Texts.{age_replied}
use Rattle.network_replies.proofs.network.Network.put_age.Goals as goal

pub returns : goal.returns
returns c =
    λ commands stands. age_replied _ _ _ commands _ _ _ _ c.self.view_is (c.birth.ensures.birth commands) stands
    c.put_age.ensures
