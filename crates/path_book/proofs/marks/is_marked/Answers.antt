use Rattle.std.proofs.Common.{false, unwrap_or, ◌∙◌, ap, arith}
use Rattle.path_book.proofs.marks.is_marked.Goals as goal

pub returns : goal.returns
returns c =
    c.unwrap_or.ensures ∙ ap (λ o. unwrap_or o false) c.copied.ensures ∙ c.get.ensures.lookup.4 (omega arith) false
