use Rattle.std.proofs.Common.{◌≡◌, ◌++◌, Ok}
use Rattle.script_reader.specs.Refused.{◌>>=◌}
use Rattle.script_reader.specs.Scan.{words_left}
use Rattle.script_reader.specs.Edges.{vertices_at}
use Rattle.script_reader.proofs.lines.vertices_at.Given as goal

abbrev pub invariant-loop-word : goal.invariant-loop-word
invariant-loop-word l =
    (vertices_at l.n l.word-iterator.place (words_left l.word-iterator) >>= (λ us. Ok (l.items.items ++ us))) ≡
    vertices_at l.n l.words.place (words_left l.words)
