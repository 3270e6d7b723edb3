use Rattle.std.proofs.Common.{◌∙◌}
use Rattle.std.specs.Prelude.{codes}
use Rattle.std.proofs.lemmas.Result.{err_from_is_err_and}
use Rattle.apsp_model.specs.Graph.{weight_at}
use Rattle.certificate.specs.Grammar.{edge_word_text}
use Rattle.certificate.proofs.Given.{count_stops, rows_last}
use Rattle.certificate.proofs.write.give_edges.Goals as goal

pub returns-in_err-give_named-clause-text : goal.returns-in_err-give_named-clause-text
returns-in_err-give_named-clause-text g c =
    let p = err_from_is_err_and c.from_residual.result c.from_residual.ensures.1 in
    rw (p.1, p.2) (count_stops (codes "edges") edge_word_text (weight_at c.args.version.now.graph) c.args.version.now.graph.vertices
    c.from.result (c.from.ensures ∙ c.count_edges.ensures) c.in_err-give_named.field-0.0 (g.K.Sink.held c.args.sink.now)
    (g.K.Sink.held c.give_named.new.sink) (g.K.Sink.faults c.args.sink.now) (g.K.Sink.faults c.give_named.new.sink)
    c.in_err-give_named.ensures.text)

pub returns-clause-text : goal.returns-clause-text
returns-clause-text g c =
    rows_last (codes "edges") edge_word_text (weight_at c.args.version.now.graph) c.args.version.now.graph.vertices c.from.result
    (c.from.ensures ∙ c.count_edges.ensures) c.give_edge_rows.result (g.K.Sink.held c.args.sink.now)
    (g.K.Sink.held c.give_named.new.sink) (g.K.Sink.held c.give_edge_rows.new.sink) (g.K.Sink.faults c.args.sink.now)
    (g.K.Sink.faults c.give_named.new.sink) (g.K.Sink.faults c.give_edge_rows.new.sink) c.in_ok-give_named.ensures.text
    c.in_ok-give_named.ensures.later c.give_edge_rows.ensures.text
