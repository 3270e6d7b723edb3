use Rattle.std.proofs.Common.{append_assoc}
use Rattle.network_replies.proofs.replies.put_stats.Goals as goal

pub returns : goal.returns
returns c = simp append_assoc (simp append_assoc at c.write.ensures.bytes)
