use Rattle.std.proofs.Common.{◌≡◌, ◌++◌, length, ap, sym, ◌∙◌}
use Rattle.std.specs.Prelude.{true, false}
use Rattle.rtrb.specs.Ring.{sent, received}
use Rattle.change_feed.specs.Applied.{shown}
use Rattle.change_feed.specs.Feeds.{taken_items}
use Rattle.change_feed.proofs.Leading.{taken_alone, state_all}
use Rattle.change_feed.proofs.ends.Mirror.close.Goals as goal

pub invariant_of-self : goal.invariant_of-self
invariant_of-self c =
    let m = c.take_beside.new.self in
    let s = c.take_beside.new.sender in
    let none = m.unrested (c.take_beside.ensures.mirror.feed c.args.sender c.requires).unclosed in
    let alone : taken_items m ≡ received m.consumer = taken_alone (received m.consumer) m.rest.value.items none in
    let whole : received m.consumer ≡ sent s.producer = sym alone ∙ c.take_beside.ensures.taken in
    let rest : c.of.result.value.items ≡ s.behind.items = ap (λ v. v.items) c.of.ensures in
    let more : received m.consumer ++ c.of.result.value.items ≡ taken_items m ++ s.behind.items =
    ap (λ l. received m.consumer ++ l) rest ∙ ap (λ l. l ++ s.behind.items) (sym alone) in
    record {
      counted =
          s.counted ∙ (ap (λ l. length (l ++ s.behind.items)) (sym whole)
          ∙ ap (λ l. length (received m.consumer ++ l)) (sym rest));
      unrested = λ f. absurd (let g : true ≡ false = f in cc);
      state = state_all m.tables c.apply_all.new.self (shown m.opening.value) (taken_items m)
          (received m.consumer ++ c.of.result.value.items) s.behind.items c.apply_all.ensures.vertices
          c.apply_all.ensures.tables m.state more;
    }
