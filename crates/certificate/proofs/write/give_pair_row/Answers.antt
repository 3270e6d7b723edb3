use Rattle.std.proofs.Common.{sym, ◌∙◌, ap, subst}
use Rattle.std.specs.Prelude.{List, ℕ, ◌++◌, ◌∷◌, []}
use Rattle.std.specs.Fmt.{decimal}
use Rattle.certificate.specs.Grammar.{pair_word_text, words_text}
use Rattle.certificate.specs.Giving.{GivesText}
use Rattle.certificate.specs.Writing.{row_pairs}
use Rattle.certificate.proofs.Rows.{row_line}
use Rattle.certificate.proofs.write.give_pair_row.Goals as goal

pub returns-clause-text : goal.returns-clause-text
returns-clause-text g c = λ f h.
    let G = c.args.version.now.graph in
    let P : List ℕ → Type 0 =
    λ t. GivesText c.give_line.result (g.K.Sink.held c.args.sink.now) (g.K.Sink.held c.give_line.new.sink)
    (g.K.Sink.faults c.args.sink.now) (g.K.Sink.faults c.give_line.new.sink) t in
    subst P (sym (row_line pair_word_text (f c.args.x) c.args.x G.vertices
    (λ e. c.if-count_pair_row-eq0.false (c.count_pair_row.ensures.count f h ∙ e))
    ∙ ap (λ l. l ++ 10 ∷ []) (sym (c.put_pair_row.ensures.bytes f h
    ∙ ap (λ l. l ++ words_text pair_word_text (row_pairs G f c.args.x))
    (c.put_number.ensures.bytes ∙ ap (λ l. l ++ decimal c.from.result) c.clear.ensures ∙ ap decimal c.from.ensures)))))
    c.give_line.ensures.text
