use Rattle.std.proofs.Common.{◌∙◌, arith}
use Rattle.change_feed.proofs.Leading.{mirror_again}
use Rattle.change_feed.proofs.ends.Mirror.take_beside.Goals as goal

pub items-preserved : goal.items-preserved
items-preserved c = record {
  unclosed = c.take_known.ensures.unclosed;
  later = mirror_again c.args.self.now c.items.self c.take_known.new.self c.items.invariant.later
      c.take_known.ensures.later;
  all = c.take_known.ensures.taken ∙ c.items.invariant.all;
  count = omega (arith, c.take_known.ensures.fewer, c.items.invariant.count);
}
