use Rattle.std.proofs.Common.{◌≡◌, ◌++◌, ◌∷◌, [], length, ap, arith}
use Rattle.std.proofs.lemmas.List.{length-append}
use Rattle.rtrb.specs.Ring.{received}
use Rattle.change_feed.specs.Applied.{shown}
use Rattle.change_feed.specs.Feeds.{taken_items}
use Rattle.change_feed.proofs.Leading.{taken_push, state_push}
use Rattle.change_feed.proofs.ends.Mirror.take_one.Goals as goal

pub invariant_of-self : goal.invariant_of-self
invariant_of-self c =
    let m = c.args.self.now in
    let none = m.unrested c.requires in
    let more : received c.pop.new.self ++ m.rest.value.items ≡ taken_items m ++ c.in-Ok.item ∷ [] =
    taken_push (received m.consumer) (received c.pop.new.self) m.rest.value.items c.in-Ok.item none
    c.in-Ok.ensures.ok.0 in
    record {
      counted = omega (arith, m.counted, ap length more, length-append (taken_items m) (c.in-Ok.item ∷ []));
      unrested = m.unrested;
      state = state_push m.tables c.apply.new.self (shown m.opening.value) (taken_items m)
          (received c.pop.new.self ++ m.rest.value.items) c.in-Ok.item c.apply.ensures.vertices c.apply.ensures.tables
          m.state more;
    }
