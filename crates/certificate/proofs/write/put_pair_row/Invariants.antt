use Rattle.std.specs.Prelude.{◌≡◌, ℕ, ◌+◌, ◌*◌, ◌≤◌, ◌++◌, length, Option}
use Rattle.apsp_model.specs.Stated.{Entry}
use Rattle.certificate.specs.Table.{row_items}
use Rattle.certificate.specs.Grammar.{pair_word_text, words_text}
use Rattle.certificate.specs.Writing.{IsEntryTable}
use Rattle.certificate.proofs.write.put_pair_row.Given as goal

abbrev pub invariant-cells : goal.invariant-cells
invariant-cells l =
    ((f : ℕ → ℕ → Option Entry) → IsEntryTable l.version.graph f
    → l.line ≡ l.initial.line ++ words_text pair_word_text (row_items (f l.x) l.x l.y))
    × (length l.line ≤ length l.initial.line + 84 * l.y)
