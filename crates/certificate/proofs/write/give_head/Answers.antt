use Rattle.std.proofs.Common.{◌∙◌, subst}
use Rattle.std.specs.Prelude.{Err, codes, ◌++◌, ◌∷◌, []}
use Rattle.std.proofs.lemmas.Result.{err_from_is_err_and}
use Rattle.certificate.specs.Grammar.{named}
use Rattle.std.specs.Io.KnownBytes.{Appends}
use Rattle.certificate.proofs.Given.{numbered, head_stops_first, head_stops_second, head_last}
use Rattle.certificate.proofs.write.give_head.Goals as goal

pub returns-in_err-give_fixed-clause-text : goal.returns-in_err-give_fixed-clause-text
returns-in_err-give_fixed-clause-text g c =
    let p = err_from_is_err_and c.from_residual.result c.from_residual.ensures.1 in
    let v = c.args.version.now in
    rw (p.1, p.2) (head_stops_first (codes "apsp certificate 2") (named (codes "number") v.number)
    (named (codes "vertices") v.graph.vertices) c.in_err-give_fixed.field-0.0 (g.K.Sink.held c.args.sink.now)
    (g.K.Sink.held c.give_fixed.new.sink) (g.K.Sink.faults c.args.sink.now) (g.K.Sink.faults c.give_fixed.new.sink)
    c.in_err-give_fixed.ensures.text)

pub returns-in_err-give_named-clause-text : goal.returns-in_err-give_named-clause-text
returns-in_err-give_named-clause-text g c =
    let p = err_from_is_err_and c.from_residual-in_err-give_named.result c.from_residual-in_err-give_named.ensures.1 in
    let v = c.args.version.now in
    rw (p.1, p.2) (head_stops_second (codes "apsp certificate 2") (named (codes "number") v.number)
    (named (codes "vertices") v.graph.vertices) c.in_err-give_named.field-0.0 (g.K.Sink.held c.args.sink.now)
    (g.K.Sink.held c.give_fixed.new.sink) (g.K.Sink.held c.give_named.new.sink) (g.K.Sink.faults c.args.sink.now)
    (g.K.Sink.faults c.give_fixed.new.sink) (g.K.Sink.faults c.give_named.new.sink) c.in_ok-give_fixed.ensures.text
    c.in_ok-give_fixed.ensures.later
    (numbered (Err c.in_err-give_named.field-0.0) (g.K.Sink.held c.give_fixed.new.sink)
    (g.K.Sink.held c.give_named.new.sink) (g.K.Sink.faults c.give_fixed.new.sink)
    (g.K.Sink.faults c.give_named.new.sink) (codes "number") c.number.result v.number c.number.ensures
    c.in_err-give_named.ensures.text))

pub returns-clause-text : goal.returns-clause-text
returns-clause-text g c =
    let v = c.args.version.now in
    head_last (codes "apsp certificate 2") (named (codes "number") v.number) (named (codes "vertices") v.graph.vertices)
    c.give_named-2.result (g.K.Sink.held c.args.sink.now) (g.K.Sink.held c.give_fixed.new.sink)
    (g.K.Sink.held c.give_named.new.sink) (g.K.Sink.held c.give_named-2.new.sink) (g.K.Sink.faults c.args.sink.now)
    (g.K.Sink.faults c.give_fixed.new.sink) (g.K.Sink.faults c.give_named.new.sink)
    (g.K.Sink.faults c.give_named-2.new.sink) c.in_ok-give_fixed.ensures.text c.in_ok-give_fixed.ensures.later
    (subst (λ j. Appends (g.K.Sink.held c.give_fixed.new.sink) (g.K.Sink.held c.give_named.new.sink)
    (named (codes "number") j ++ 10 ∷ [])) c.number.ensures c.in_ok-give_named.ensures.text)
    c.in_ok-give_named.ensures.later
    (numbered c.give_named-2.result (g.K.Sink.held c.give_named.new.sink) (g.K.Sink.held c.give_named-2.new.sink)
    (g.K.Sink.faults c.give_named.new.sink) (g.K.Sink.faults c.give_named-2.new.sink) (codes "vertices")
    c.from.result v.graph.vertices (c.from.ensures ∙ c.vertices-n.ensures.vertices) c.give_named-2.ensures.text)
