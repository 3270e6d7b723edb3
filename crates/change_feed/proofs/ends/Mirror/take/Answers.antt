use Rattle.change_feed.specs.Feeds.{taken_items}
use Rattle.change_feed.proofs.Leading.{mirror_again, more_taken}
use Rattle.change_feed.proofs.ends.Mirror.take.Goals as goal

pub items-preserved : goal.items-preserved
items-preserved c = record {
  unclosed = c.take_one.ensures.unclosed;
  later = mirror_again c.args.self.now c.items.self c.take_one.new.self c.items.invariant.later
      c.take_one.ensures.later;
  taken = more_taken (taken_items c.args.self.now) (taken_items c.items.self) (taken_items c.take_one.new.self)
      c.items.counter c.items.invariant.taken c.take_one.ensures.taken;
}

pub returns-then-not-take_one-clause-later : goal.returns-then-not-take_one-clause-later
returns-then-not-take_one-clause-later c =
    mirror_again c.args.self.now c.items.self c.take_one.new.self c.items.invariant.later c.take_one.ensures.later
