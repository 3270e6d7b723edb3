use Rattle.std.proofs.Common.{arith}
use Rattle.std.proofs.lemmas.Result.{err_from_is_err_and}
use Rattle.apsp_model.specs.Graph.{weight_at}
use Rattle.certificate.specs.Grammar.{edge_word_text}
use Rattle.certificate.proofs.Given.{rows_stop}
use Rattle.certificate.proofs.write.give_edge_rows.Goals as goal

pub returns-in_err-give_edge_row-clause-text : goal.returns-in_err-give_edge_row-clause-text
returns-in_err-give_edge_row-clause-text g c =
    let p = err_from_is_err_and c.from_residual.result c.from_residual.ensures.1 in
    let G = c.args.version.now.graph in
    rw (p.1, p.2) (rows_stop edge_word_text (g.K.Sink.held c.args.sink.now) (g.K.Sink.held c.rows.sink)
    (g.K.Sink.held c.give_edge_row.new.sink) (g.K.Sink.faults c.args.sink.now) (g.K.Sink.faults c.rows.sink)
    (g.K.Sink.faults c.give_edge_row.new.sink) c.in_err-give_edge_row.field-0.0 (weight_at G) G.vertices c.rows.u
    G.vertices (omega (arith, c.rows-test.true, c.vertices-u-end.ensures.vertices)) c.rows.invariant
    c.in_err-give_edge_row.ensures.text)
