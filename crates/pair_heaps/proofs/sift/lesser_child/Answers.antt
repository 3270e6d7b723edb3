use Rattle.std.proofs.Common.{arith}
use Rattle.pair_heaps.proofs.Sifted.{lesser_right, lesser_left, child_right, child_left}
use Rattle.pair_heaps.proofs.sift.lesser_child.Goals as goal

pub returns-then-right-ids : goal.returns-then-right-ids
returns-then-right-ids c = (
  child_left c.args.at,
  omega arith,
  lesser_left c.args.arena.now c.args.ids.now c.args.at
      (λ more. absurd (omega (arith, more, c.if-right-ids.true))),
)

pub returns-then-is_below : goal.returns-then-is_below
returns-then-is_below c = (
  child_right c.args.at,
  c.if-right-ids.false,
  lesser_right c.args.arena.now c.args.ids.now c.args.at
      (c.is_below.ensures.yes c.if-is_below.true),
)

pub returns : goal.returns
returns c = (
  child_left c.args.at,
  omega arith,
  lesser_left c.args.arena.now c.args.ids.now c.args.at
      (λ more. c.is_below.ensures.no c.if-is_below.false),
)
