use Rattle.std.proofs.Common.{arith}
use Rattle.std.proofs.lemmas.Result.{err_from_is_err_and}
use Rattle.certificate.specs.Grammar.{pair_word_text}
use Rattle.certificate.proofs.Given.{rows_stop}
use Rattle.certificate.proofs.write.give_pair_rows.Goals as goal

pub returns-in_err-give_pair_row-clause-text : goal.returns-in_err-give_pair_row-clause-text
returns-in_err-give_pair_row-clause-text g c = λ f h.
    let p = err_from_is_err_and c.from_residual.result c.from_residual.ensures.1 in
    let G = c.args.version.now.graph in
    rw (p.1, p.2) (rows_stop pair_word_text (g.K.Sink.held c.args.sink.now) (g.K.Sink.held c.rows.sink)
    (g.K.Sink.held c.give_pair_row.new.sink) (g.K.Sink.faults c.args.sink.now) (g.K.Sink.faults c.rows.sink)
    (g.K.Sink.faults c.give_pair_row.new.sink) c.in_err-give_pair_row.field-0.0 f G.vertices c.rows.x
    G.vertices (omega (arith, c.rows-test.true, c.vertices-x-end.ensures.vertices)) (c.rows.invariant.0 f h)
    (c.in_err-give_pair_row.ensures.text f h))
