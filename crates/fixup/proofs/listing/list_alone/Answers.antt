use Rattle.std.proofs.Common.{arith}
use Rattle.fixup.proofs.Wholes.{each_once}
use Rattle.fixup.proofs.Adding.{all_start, all_more, all_end}
use Rattle.fixup.proofs.listing.list_alone.Goals as goal

pub winners-init : goal.winners-init
winners-init g c = all_start c.args.book.now c.args.winners.now c.requires.class c.args.joins.now.items

pub winners-preserved : goal.winners-preserved
winners-preserved g c =
    all_more c.args.book.now c.args.winners.now c.requires.class
    (each_once c.args.book.now.arena c.args.winners.now c.requires.class.in_order) c.winners.winner-index
    c.winner-item.result c.winners-test.true c.winner-item.is
    c.args.joins.now.items c.winners.joins.items c.list_winner.new.joins.items c.winners.invariant
    c.in_ok-list_winner.ensures.listed

pub returns : goal.returns
returns g c =
    record {
      listed = all_end c.args.book.now c.args.winners.now c.requires.class c.winners.winner-index
          c.args.joins.now.items c.winners.joins.items (omega (arith, c.winners-test.false)) c.winners.invariant;
    }
