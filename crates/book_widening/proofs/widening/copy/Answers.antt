use Rattle.std.proofs.Common.{sym, subst, ◌∙◌}
use Rattle.book_widening.specs.Copies.{HasCopied}
use Rattle.path_book.specs.Book.{Book}
use Rattle.book_widening.proofs.Copying.{its_life, formed_live, copied_pending, copied_historical}
use Rattle.book_widening.proofs.widening.copy.Goals as goal
use Rattle.book_widening.proofs.widening.copy.Goals.{then-is_historical+in_ok-promote, else-is_historical}

pub promote-requires-clause-live : goal.promote-requires-clause-live
promote-requires-clause-live c =
    formed_live c.args.book.now c.args.wide.now c.form_copy.new.wide c.args.id c.in_ok-copy.copy
    (its_life c.args.book.now c.args.wide.now c.args.copies.now c.requires.copies c.args.id c.requires.ready)
    c.requires.copies.book c.in_ok-copy.ensures.formed

pub returns : goal.returns
returns c =
    let live =
    its_life c.args.book.now c.args.wide.now c.args.copies.now c.requires.copies c.args.id c.requires.ready in
    let F : Book → Type 0 = λ (b : Book). HasCopied c.args.book.now c.args.wide.now b c.args.id c.in_ok-copy.copy in
    elim c.if-is_historical.branch [
      | then-is_historical+in_ok-promote w ↦
          subst F (sym w.wide-is) (copied_historical c.args.book.now c.args.wide.now c.form_copy.new.wide c.args.id
          c.in_ok-copy.copy live c.requires.copies.book c.in_ok-copy.ensures.formed
          (sym c.is_historical.ensures.value ∙ w.if-is_historical.true) w.promote.new.self w.promote.new.self.lists
          w.in_ok-promote.ensures.marked w.promote.ensures.lawful)
      | else-is_historical w ↦ subst F (sym w.wide-is)
          (copied_pending c.args.book.now c.args.wide.now c.form_copy.new.wide c.args.id c.in_ok-copy.copy live
          c.requires.copies.book c.in_ok-copy.ensures.formed
          (sym c.is_historical.ensures.value ∙ w.if-is_historical.false) c.form_copy.ensures.lawful)
    ]
