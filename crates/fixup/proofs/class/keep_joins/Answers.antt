use Rattle.std.proofs.Common.{arith}
use Rattle.fixup.proofs.Taking.{pair_sides, pair_more, pairs_end}
use Rattle.fixup.proofs.class.keep_joins.Goals as goal

pub join-requires : goal.join-requires
join-requires c =
    let s = pair_sides c.args.birth c.args.joins.now c.args.book.now c.joins.book c.args.classes.now c.joins.classes
    c.requires.once c.joins.pair-index c.pair-item.result c.joins-test.true c.pair-item.is c.joins.invariant
    c.requires.ready in
    record {
      left_live = s.left_live;
      right_live = s.right_live;
      left = s.left;
      right = s.right;
      can = s.can;
      new
          = s.new;
      fits = s.fits;
    }

pub joins-preserved : goal.joins-preserved
joins-preserved c =
    pair_more c.args.birth c.args.joins.now c.args.book.now c.joins.book c.args.classes.now c.joins.classes
    c.requires.once c.joins.pair-index c.pair-item.result c.joins-test.true c.pair-item.is c.joins.invariant
    c.join.new.book c.join.new.classes c.in_ok-join.ensures.joined c.join.ensures.lawful c.in_ok-join.ensures.fits

pub returns-clause-done : goal.returns-clause-done
returns-clause-done c =
    pairs_end c.args.birth c.args.joins.now c.args.book.now c.joins.book c.args.classes.now c.joins.classes
    c.joins.pair-index (omega (arith, c.joins-test.false)) c.joins.invariant
