use Rattle.std.proofs.Common.{List, sym, subst}
use Rattle.std.proofs.lemmas.Result.{on_ok_weaker}
use Rattle.fixup.specs.declared.listing.Join.{Join}
use Rattle.fixup.specs.Owing.{AreOwed}
use Rattle.fixup.specs.Stage.{Stage}
use Rattle.fixup.specs.Stages.{ClassIsTakenAt}
use Rattle.fixup.proofs.Pairing.{can_be_winners, winner_pending}
use Rattle.fixup.proofs.Taking.{staged, staged_starts, staged_done}
use Rattle.fixup.proofs.class.settle_class.Goals as goal

pub promote_class-requires-clause-class : goal.promote_class-requires-clause-class
promote_class-requires-clause-class g c κs within =
    let s : Stage = c.requires.taken.0 in
    can_be_winners s.graph c.args.birth s.opening s.class c.args.winners.now c.args.book.now c.args.classes.now
    c.requires.taken.1

pub promote_class-requires-clause-pending : goal.promote_class-requires-clause-pending
promote_class-requires-clause-pending g c κs within =
    let s : Stage = c.requires.taken.0 in
    winner_pending s.graph c.args.birth s.opening s.class c.args.winners.now c.args.book.now c.args.classes.now
    c.requires.taken.1

pub keep_joins-requires-clause-ready : goal.keep_joins-requires-clause-ready
keep_joins-requires-clause-ready g c =
    let s : Stage = c.requires.taken.0 in
    let owed : AreOwed c.promote_class.new.book c.args.winners.now c.deref.result.now =
    subst (λ (js : List Join). AreOwed c.promote_class.new.book c.args.winners.now js) (sym c.deref.ensures.value)
    c.in_ok-promote_class.ensures.owed in (
      staged c.args.birth c.args.winners.now c.args.book.now c.args.classes.now c.promote_class.new.book
          c.in_ok-promote_class.ensures.promoted s,
      staged_starts c.args.birth c.args.winners.now c.args.book.now c.args.classes.now c.promote_class.new.book
          c.in_ok-promote_class.ensures.promoted s c.requires.taken.1,
      λ j m. (owed.are j).0 m,
    )

pub keep_joins-requires-clause-once : goal.keep_joins-requires-clause-once
keep_joins-requires-clause-once g c =
    let owed : AreOwed c.promote_class.new.book c.args.winners.now c.deref.result.now =
    subst (λ (js : List Join). AreOwed c.promote_class.new.book c.args.winners.now js) (sym c.deref.ensures.value)
    c.in_ok-promote_class.ensures.owed in
    owed.once

pub returns-clause-done : goal.returns-clause-done
returns-clause-done g c =
    let owed : AreOwed c.promote_class.new.book c.args.winners.now c.deref.result.now =
    subst (λ (js : List Join). AreOwed c.promote_class.new.book c.args.winners.now js) (sym c.deref.ensures.value)
    c.in_ok-promote_class.ensures.owed in
    on_ok_weaker c.keep_joins.result (λ done s t. staged_done c.args.birth c.args.winners.now c.args.book.now
    c.args.classes.now c.promote_class.new.book c.in_ok-promote_class.ensures.promoted s t c.deref.result.now owed
    c.keep_joins.new.book c.keep_joins.new.classes done) c.keep_joins.ensures.done
