use Rattle.std.proofs.Common.{◌∙◌}
use Rattle.std.specs.Prelude.{codes}
use Rattle.std.proofs.lemmas.Result.{err_from_is_err_and}
use Rattle.certificate.specs.Grammar.{pair_word_text}
use Rattle.certificate.proofs.Given.{count_stops, rows_last}
use Rattle.certificate.proofs.write.give_pairs.Goals as goal

pub returns-in_err-give_named-clause-text : goal.returns-in_err-give_named-clause-text
returns-in_err-give_named-clause-text g c = λ f h.
    let p = err_from_is_err_and c.from_residual.result c.from_residual.ensures.1 in
    rw (p.1, p.2) (count_stops (codes "pairs") pair_word_text f c.args.version.now.graph.vertices
    c.from.result (c.from.ensures ∙ c.count_pairs.ensures f h) c.in_err-give_named.field-0.0 (g.K.Sink.held c.args.sink.now)
    (g.K.Sink.held c.give_named.new.sink) (g.K.Sink.faults c.args.sink.now) (g.K.Sink.faults c.give_named.new.sink)
    c.in_err-give_named.ensures.text)

pub returns-clause-text : goal.returns-clause-text
returns-clause-text g c = λ f h.
    rows_last (codes "pairs") pair_word_text f c.args.version.now.graph.vertices c.from.result
    (c.from.ensures ∙ c.count_pairs.ensures f h) c.give_pair_rows.result (g.K.Sink.held c.args.sink.now)
    (g.K.Sink.held c.give_named.new.sink) (g.K.Sink.held c.give_pair_rows.new.sink) (g.K.Sink.faults c.args.sink.now)
    (g.K.Sink.faults c.give_named.new.sink) (g.K.Sink.faults c.give_pair_rows.new.sink) c.in_ok-give_named.ensures.text
    c.in_ok-give_named.ensures.later (c.give_pair_rows.ensures.text f h)
