use Rattle.std.proofs.Common.{sym, ◌∙◌, ap}
use Rattle.std.specs.FinSet as set
use Rattle.path_book.specs.Layout.{mark_at}
use Rattle.path_book.proofs.Places.{contains-marked_in}
use Rattle.path_book.proofs.book.Book.is_historical.Goals as goal

pub returns-clause-value : goal.returns-clause-value
returns-clause-value c =
    c.is_marked.ensures ∙ ap (λ xs. mark_at xs c.key.result) c.deref.ensures.value
    ∙ sym (contains-marked_in c.self.inside.marks.items c.key.result)
    ∙ ap (λ b. set.contains b.marked c.key.result) c.self.view_is
    ∙ ap (set.contains c.args.self.now.marked) c.key.ensures.value
