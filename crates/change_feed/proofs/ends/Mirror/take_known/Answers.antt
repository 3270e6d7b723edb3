use Rattle.std.proofs.Common.{◌≡◌, ◌++◌, ◌∷◌, [], length, ap, arith}
use Rattle.std.proofs.lemmas.List.{length-append}
use Rattle.rtrb.specs.Ring.{received}
use Rattle.change_feed.specs.Applied.{shown}
use Rattle.change_feed.specs.Feeds.{taken_items}
use Rattle.change_feed.proofs.Leading.{taken_push, state_push}
use Rattle.change_feed.proofs.ends.Mirror.take_known.Goals as goal

pub invariant_of-self : goal.invariant_of-self
invariant_of-self c =
    let m = c.args.self.now in
    let none = m.unrested c.requires.unclosed in
    let more : received c.pop_known-item.new.self ++ m.rest.value.items ≡ taken_items m
    ++ c.pop_known-item.result ∷ [] = taken_push (received m.consumer) (received c.pop_known-item.new.self)
    m.rest.value.items c.pop_known-item.result none c.pop_known-item.ensures.received.0 in
    record {
      counted = omega (arith, m.counted, ap length more, length-append (taken_items m) (c.pop_known-item.result ∷ []));
      unrested = m.unrested;
      state = state_push m.tables c.apply.new.self (shown m.opening.value) (taken_items m)
          (received c.pop_known-item.new.self ++ m.rest.value.items) c.pop_known-item.result c.apply.ensures.vertices
          c.apply.ensures.tables m.state more;
    }
