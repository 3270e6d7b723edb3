use Rattle.std.proofs.Common.{arith}
use Rattle.fixup.proofs.Wholes.{each_once}
use Rattle.fixup.proofs.Taking.{promoted_none, promote_live, promote_pending, promoted_more, promoted_all, winners_then}
use Rattle.fixup.proofs.class.promote_all.Goals as goal

pub winners-init : goal.winners-init
winners-init c = promoted_none c.args.book.now c.args.winners.now c.requires.class.lawful

pub promote-requires-clause-live : goal.promote-requires-clause-live
promote-requires-clause-live c =
    promote_live c.args.book.now c.winners.book c.args.winners.now c.winners.winner-index c.winner-item.result
    c.winners-test.true c.winner-item.is c.winners.invariant c.requires.class

pub promote-requires-clause-pending : goal.promote-requires-clause-pending
promote-requires-clause-pending c =
    promote_pending c.args.book.now c.winners.book c.args.winners.now c.winners.winner-index c.winner-item.result
    c.winners-test.true c.winner-item.is c.winners.invariant c.requires.pending
    (each_once c.args.book.now.arena c.args.winners.now c.requires.class.in_order)

pub winners-preserved : goal.winners-preserved
winners-preserved c =
    promoted_more c.args.book.now c.winners.book c.args.winners.now c.winners.winner-index c.winner-item.result
    c.winners-test.true c.winner-item.is c.winners.invariant c.promote.new.self c.in_ok-promote.ensures.marked
    c.promote.ensures.lawful

pub returns-clause-promoted : goal.returns-clause-promoted
returns-clause-promoted c =
    promoted_all c.args.book.now c.winners.book c.args.winners.now c.winners.winner-index
    (omega (arith, c.winners-test.false)) c.winners.invariant

pub returns-clause-class : goal.returns-clause-class
returns-clause-class c =
    winners_then c.args.book.now c.winners.book c.args.winners.now c.requires.class
    (promoted_all c.args.book.now c.winners.book c.args.winners.now c.winners.winner-index
    (omega (arith, c.winners-test.false)) c.winners.invariant)
