use Rattle.std.proofs.Common.{◌≤◌, take}
use Rattle.std.specs.List.{flat_map}
use Rattle.std.specs.Io.KnownBytes.{Appends}
use Rattle.network_replies.specs.Replies.{answer_text}
use Rattle.apsp_service.proofs.session.give_answers.Given as goal

abbrev pub invariant-loop-answer : goal.invariant-loop-answer
invariant-loop-answer g l =
    Appends (g.K.Sink.held l.initial.sink) (g.K.Sink.held l.sink) (flat_map answer_text (take l.answer-index l.answers))
    × (g.K.Sink.faults l.initial.sink ≤ g.K.Sink.faults l.sink)
