use Rattle.network_replies.proofs.Texts.{least_put}
use Rattle.network_replies.proofs.network.Network.put_least.Goals as goal

pub returns-in-Some : goal.returns-in-Some
returns-in-Some c = least_put _ _ _ _ _ _ _ _ c.self.view_is c.in-Some.ensures c.put_walk.ensures
