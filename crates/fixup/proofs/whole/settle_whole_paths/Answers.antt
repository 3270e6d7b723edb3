use Rattle.std.proofs.Common.{sym, subst}
use Rattle.path_book.specs.Book.{Book}
use Rattle.fixup.specs.Growth.{InvariantHolds, InvariantHoldsAtTheEnd}
use Rattle.fixup.specs.Stage.{Start}
use Rattle.fixup.proofs.Resting.{none_pending}
use Rattle.fixup.proofs.Wholes.{whole_starts}
use Rattle.fixup.proofs.whole.settle_whole_paths.Goals as goal

pub take_classes-requires-clause-started : goal.take_classes-requires-clause-started
take_classes-requires-clause-started g c κs within =
    let at : InvariantHolds c.args.graph.now c.args.birth c.args.book.now c.queue_heads.new.book
    c.queue_heads.new.classes =
    subst (λ (b : Book). InvariantHolds c.args.graph.now c.args.birth c.args.book.now b c.queue_heads.new.classes)
    (sym c.queue_heads.ensures.same)
    (whole_starts c.args.graph.now c.args.birth c.args.book.now c.form_rows.new.book c.queue_heads.new.classes
    c.vertices-n.ensures.graph c.requires.lawful c.requires.alone c.in_ok-form_rows.ensures.formed
    c.in_ok-queue_heads.ensures.queued) in
    (record { graph = c.args.graph.now; opening = c.args.book.now }, at)

pub note_clean-requires : goal.note_clean-requires
note_clean-requires g c =
    let at : InvariantHolds c.args.graph.now c.args.birth c.args.book.now c.queue_heads.new.book
    c.queue_heads.new.classes =
    subst (λ (b : Book). InvariantHolds c.args.graph.now c.args.birth c.args.book.now b c.queue_heads.new.classes)
    (sym c.queue_heads.ensures.same)
    (whole_starts c.args.graph.now c.args.birth c.args.book.now c.form_rows.new.book c.queue_heads.new.classes
    c.vertices-n.ensures.graph c.requires.lawful c.requires.alone c.in_ok-form_rows.ensures.formed
    c.in_ok-queue_heads.ensures.queued) in
    let s : Start = record { graph = c.args.graph.now; opening = c.args.book.now } in
    record {
      clean = λ x y x_in y_in. none_pending c.args.graph.now c.args.birth c.args.book.now c.take_classes.new.book
          c.take_classes.new.classes (c.in_ok-take_classes.ensures.done s at) x y c.in_ok-take_classes.ensures.empty;
    }

pub returns-clause-over : goal.returns-clause-over
returns-clause-over g c =
    let at : InvariantHolds c.args.graph.now c.args.birth c.args.book.now c.queue_heads.new.book
    c.queue_heads.new.classes =
    subst (λ (b : Book). InvariantHolds c.args.graph.now c.args.birth c.args.book.now b c.queue_heads.new.classes)
    (sym c.queue_heads.ensures.same)
    (whole_starts c.args.graph.now c.args.birth c.args.book.now c.form_rows.new.book c.queue_heads.new.classes
    c.vertices-n.ensures.graph c.requires.lawful c.requires.alone c.in_ok-form_rows.ensures.formed
    c.in_ok-queue_heads.ensures.queued) in
    let s : Start = record { graph = c.args.graph.now; opening = c.args.book.now } in
    subst (λ (b : Book). InvariantHoldsAtTheEnd c.args.graph.now c.args.birth c.args.book.now b)
    (sym c.note_clean.ensures.same)
    (record {
      classes = c.take_classes.new.classes;
      at = c.in_ok-take_classes.ensures.done s at;
      empty
          = c.in_ok-take_classes.ensures.empty;
    })
