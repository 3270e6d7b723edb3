use Rattle.std.proofs.Common.{◌≡◌, ◌++◌}
use Rattle.std.specs.Prelude.{string_bytes}
use Rattle.std.specs.List.{flat_map}
use Rattle.network_replies.specs.Replies.{number_text}
use Rattle.network_replies.proofs.replies.put_walk.Given as goal

abbrev pub invariant-loop-vertex : goal.invariant-loop-vertex
invariant-loop-vertex l =
    string_bytes l.text ++ flat_map number_text l.vertex-iterator ≡ string_bytes l.initial.text
    ++ flat_map number_text l.initial.vertex-iterator
