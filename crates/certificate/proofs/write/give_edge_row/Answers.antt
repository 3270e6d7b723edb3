use Rattle.std.proofs.Common.{sym, ◌∙◌, ap, subst}
use Rattle.std.specs.Prelude.{List, ℕ, ◌++◌, ◌∷◌, []}
use Rattle.std.specs.Fmt.{decimal}
use Rattle.apsp_model.specs.Graph.{weight_at}
use Rattle.certificate.specs.Grammar.{edge_word_text, words_text}
use Rattle.certificate.specs.Giving.{GivesText}
use Rattle.certificate.specs.Writing.{row_edges}
use Rattle.certificate.proofs.Rows.{row_line}
use Rattle.certificate.proofs.write.give_edge_row.Goals as goal

pub returns-clause-text : goal.returns-clause-text
returns-clause-text g c =
    let G = c.args.version.now.graph in
    let P : List ℕ → Type 0 =
    λ t. GivesText c.give_line.result (g.K.Sink.held c.args.sink.now) (g.K.Sink.held c.give_line.new.sink)
    (g.K.Sink.faults c.args.sink.now) (g.K.Sink.faults c.give_line.new.sink) t in
    subst P (sym (row_line edge_word_text (weight_at G c.args.u) c.args.u G.vertices
    (λ e. c.if-count_edge_row-eq0.false (c.count_edge_row.ensures.count ∙ e))
    ∙ ap (λ l. l ++ 10 ∷ []) (sym (c.put_edge_row.ensures.bytes
    ∙ ap (λ l. l ++ words_text edge_word_text (row_edges G c.args.u))
    (c.put_number.ensures.bytes ∙ ap (λ l. l ++ decimal c.from.result) c.clear.ensures ∙ ap decimal c.from.ensures)))))
    c.give_line.ensures.text
