use Rattle.std.specs.Prelude.{string_bytes}
use Rattle.network_replies.proofs.Texts.{RowSoFar}
use Rattle.network_replies.proofs.network.Network.put_distances.Given as goal

abbrev pub invariant-loop-y : goal.invariant-loop-y
invariant-loop-y l = RowSoFar l.self.graph l.x l.y (string_bytes l.initial.text) (string_bytes l.text)
