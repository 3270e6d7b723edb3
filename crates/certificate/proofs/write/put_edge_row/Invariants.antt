use Rattle.std.specs.Prelude.{◌≡◌, ◌+◌, ◌*◌, ◌≤◌, ◌++◌, length}
use Rattle.apsp_model.specs.Graph.{weight_at}
use Rattle.certificate.specs.Table.{row_items}
use Rattle.certificate.specs.Grammar.{edge_word_text, words_text}
use Rattle.certificate.proofs.write.put_edge_row.Given as goal

abbrev pub invariant-cells : goal.invariant-cells
invariant-cells l =
    (l.line ≡ l.initial.line ++ words_text edge_word_text (row_items (weight_at l.version.graph l.u) l.u l.v))
    × (length l.line ≤ length l.initial.line + 84 * l.v)
