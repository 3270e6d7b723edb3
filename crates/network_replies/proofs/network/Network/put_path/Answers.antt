use Rattle.std.specs.Prelude.{string_bytes}
use Rattle.network_replies.proofs.Texts.{path_replied}
use Rattle.network_replies.proofs.network.Network.put_path.Goals as goal

pub returns : goal.returns
returns c =
    path_replied _ _ _ _ (string_bytes c.args.text.now) _ _ _ c.in_ok-write.ensures.bytes c.in_ok-put_least.ensures
    c.push.ensures.bytes
