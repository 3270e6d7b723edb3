use Rattle.std.proofs.Common.{◌≡◌, ◌++◌, take}
use Rattle.std.specs.Prelude.{string_bytes}
use Rattle.std.specs.List.{flat_map}
use Rattle.network_replies.specs.Replies.{number_text}
use Rattle.network_replies.proofs.replies.put_list.Given as goal

abbrev pub invariant-loop-vertex : goal.invariant-loop-vertex
invariant-loop-vertex l =
    string_bytes l.text ≡ string_bytes l.initial.text ++ flat_map number_text (take l.vertex-index l.list)
