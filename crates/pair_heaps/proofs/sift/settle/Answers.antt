use Rattle.std.proofs.Common.{◌-◌, ◌/◌, ◌<◌, arith}
use Rattle.pair_heaps.proofs.Sifted.{loose_rises, parent_child}
use Rattle.pair_heaps.proofs.sift.settle.Goals as goal

pub rise-requires-clause-rising : goal.rise-requires-clause-rising
rise-requires-clause-rising c =
    let some : 0 < c.args.at = omega (arith, c.if-at-eq0.false) in
    loose_rises c.args.arena.now c.args.ids.now ((c.args.at - 1) / 2) c.args.at (parent_child c.args.at some)
    (c.is_below.ensures.yes c.if-is_below.true) c.requires.loose
