use Rattle.std.proofs.Common.{ap, sym, ◌∙◌, take, length, arith}
use Rattle.std.proofs.lemmas.List.{take_all}
use Rattle.script_reader.proofs.Cutting.{newline_at, no_newline}
use Rattle.script_reader.proofs.cutter.line_part.Goals as goal

pub returns-in-Some-clause-part : goal.returns-in-Some-clause-part
returns-in-Some-clause-part c =
    let piece = c.args.piece.now in
    let at = newline_at piece c.in-Some.place c.in-Some.ensures.0.high
    (λ j p. c.in-Some.ensures.0.before j (omega arith) p) c.in-Some.ensures.1 in
    ap (λ k. take k piece) (sym at.place)

pub returns-in-None-clause-part : goal.returns-in-None-clause-part
returns-in-None-clause-part c =
    let piece = c.args.piece.now in
    let none = no_newline piece (λ j p. c.in-None.ensures j (omega arith) p) in
    sym (ap (λ k. take k piece) none.place ∙ take_all (length piece) piece (omega arith))

pub returns-in-None-clause-whole : goal.returns-in-None-clause-whole
returns-in-None-clause-whole c = sym (no_newline c.args.piece.now (λ j p. c.in-None.ensures j (omega arith) p)).none
