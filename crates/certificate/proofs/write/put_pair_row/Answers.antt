use Rattle.std.proofs.Common.{sym, ◌∙◌, ap, arith, append_assoc}
use Rattle.std.specs.Prelude.{◌++◌}
use Rattle.certificate.specs.Grammar.{pair_word_text, words_text}
use Rattle.certificate.specs.Table.{item_list, row_items}
use Rattle.certificate.proofs.Rows.{words_more}
use Rattle.certificate.proofs.write.put_pair_row.Goals as goal

pub cells-preserved : goal.cells-preserved
cells-preserved c = (
  λ f h. c.put_entry.ensures.bytes
      ∙ ap (λ o. c.cells.line ++ words_text pair_word_text (item_list (c.args.x, c.cells.y) o)) (c.entry.ensures f h)
      ∙ ap (λ l. l ++ words_text pair_word_text (item_list (c.args.x, c.cells.y) (f c.args.x c.cells.y)))
      (c.cells.invariant.0 f h)
      ∙ append_assoc c.args.line.now (words_text pair_word_text (row_items (f c.args.x) c.args.x c.cells.y))
      (words_text pair_word_text (item_list (c.args.x, c.cells.y) (f c.args.x c.cells.y)))
      ∙ ap (λ l. c.args.line.now ++ l) (sym (words_more pair_word_text (f c.args.x) c.args.x c.cells.y)),
  omega (arith, c.put_entry.ensures.within, c.cells.invariant.1),
)
