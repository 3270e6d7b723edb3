use Rattle.std.proofs.Common.{ℕ, List, Option, sym, subst, ◌∙◌, arith}
use Rattle.book_widening.specs.Copies.{CanBeCopied}
use Rattle.book_widening.proofs.Copying.{copies_more}
use Rattle.book_widening.proofs.Longer.{can_be_next, upto_more, upto_all}
use Rattle.book_widening.proofs.widening.copy_all.Goals as goal

pub copy-requires-clause-ready : goal.copy-requires-clause-ready
copy-requires-clause-ready c =
    let ready : CanBeCopied c.args.book.now c.ids.copies.items c.id-item.result =
    can_be_next c.args.book.now c.args.copies.now.items c.ids.copies.items c.args.ids.now c.ids.id-index
    c.id-item.result c.requires.ready c.requires.once c.ids.invariant.1 c.ids-test.true c.id-item.is in
    subst (λ (xs : List (Option ℕ)). CanBeCopied c.args.book.now xs c.id-item.result) (sym c.deref.ensures.value) ready

pub ids-preserved : goal.ids-preserved
ids-preserved c =
    let ready : CanBeCopied c.args.book.now c.ids.copies.items c.id-item.result =
    can_be_next c.args.book.now c.args.copies.now.items c.ids.copies.items c.args.ids.now c.ids.id-index
    c.id-item.result c.requires.ready c.requires.once c.ids.invariant.1 c.ids-test.true c.id-item.is in (
      copies_more c.args.book.now c.ids.wide c.copy.new.wide c.ids.copies.items c.note.new.copies.items c.id-item.result
          c.in_ok-copy.copy c.ids.invariant.0 ready.new c.in_ok-copy.ensures c.in_ok-note.ensures.here
          c.in_ok-note.ensures.others,
      upto_more c.args.copies.now.items c.ids.copies.items c.note.new.copies.items c.args.ids.now c.ids.id-index
          c.id-item.result c.in_ok-copy.copy c.ids.invariant.1 c.ids-test.true c.id-item.is c.in_ok-note.ensures.here
          c.in_ok-note.ensures.others,
      c.in_ok-copy.ensures.vertices ∙ c.ids.invariant.2,
    )

pub returns-clause-copied : goal.returns-clause-copied
returns-clause-copied c =
    upto_all c.args.copies.now.items c.args.ids.now c.ids.id-index c.ids.copies.items (omega (arith, c.ids-test.false))
    c.ids.invariant.1
