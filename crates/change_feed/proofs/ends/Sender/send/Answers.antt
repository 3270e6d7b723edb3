use Rattle.std.proofs.Common.{◌≡◌, ℕ, ◌+◌, ◌*◌, ◌≤◌, ◌++◌, List, length, ap, sym, ◌∙◌, arith}
use Rattle.std.proofs.lemmas.List.{length-append}
use Rattle.rtrb.specs.Ring.{sent, producer_capacity}
use Rattle.version_face.specs.Seen.{VersionSeen}
use Rattle.change_feed.specs.declared.items.Cell.{Cell}
use Rattle.change_feed.specs.declared.items.Item.{Item}
use Rattle.change_feed.specs.declared.items.TheConstants.{MOST_ITEMS}
use Rattle.change_feed.specs.Applied.{shown}
use Rattle.change_feed.specs.Changes.{marked}
use Rattle.change_feed.proofs.Differing.{changes_done, length_marked, leads_on}
use Rattle.change_feed.proofs.Leading.{sent_more, full_from, square_few}
use Rattle.change_feed.proofs.ends.Sender.send.Goals as goal

put_is : (put reserved back : List Item) (cells lent : List Cell) (k number : ℕ) → put ≡ reserved ++ marked lent k
    → reserved ≡ back → lent ≡ cells → k ≡ number → put ≡ back ++ marked cells number
put_is put reserved back cells lent k number a b c d =
    a ∙ (ap (λ l. l ++ marked lent k) b ∙ (ap (λ l. back ++ marked l k) c ∙ ap (λ n. back ++ marked cells n) d))

pub invariant_of-self-2 : goal.invariant_of-self-2
invariant_of-self-2 c =
    let s = c.args.self.now in
    let w = c.args.next.now in
    let all : sent c.flush.new.producer ++ c.flush.new.behind.items ≡ (sent s.producer ++ s.behind.items)
    ++ marked c.in-Ok.cells.items w.number = sent_more (sent s.producer) s.behind.items c.put_items.new.behind.items
    (sent c.flush.new.producer) c.flush.new.behind.items (marked c.in-Ok.cells.items w.number) c.flush.ensures.all
    (put_is c.put_items.new.behind.items c.reserve.new.self.items s.behind.items c.in-Ok.cells.items
    c.deref.result.now c.number.result w.number c.put_items.ensures c.reserve.ensures.items c.deref.ensures.value
    c.number.ensures) in
    let size = length_marked c.in-Ok.cells.items w.number in
    let counted : s.count + (c.len-2.result + 1) ≡ length (sent c.flush.new.producer ++ c.flush.new.behind.items) =
    omega (
      arith,
      s.counted,
      ap length all,
      length-append (sent s.producer ++ s.behind.items)
          (marked c.in-Ok.cells.items w.number),
      size,
      c.len-2.ensures,
      c.in-Ok.cells.ok.0,
    ) in
    let few : s.count + (c.len-2.result + 1) ≤ w.number * MOST_ITEMS =
    omega (
      arith,
      s.few,
      c.requires.later,
      c.in-Ok.ensures.few,
      square_few w.graph.vertices
          c.vertices-vertices.ensures.graph.most,
      c.len-2.ensures,
      c.in-Ok.cells.ok.0,
    ) in
    let number : c.copy_into.new.other.number ≡ w.number = ap (λ (v : VersionSeen). v.number) c.copy_into.ensures in
    record {
      counted = counted;
      room = c.flush.ensures.room;
      full = full_from (s.count + (c.len-2.result + 1)) (producer_capacity c.flush.new.producer)
          (sent c.flush.new.producer) c.flush.new.behind.items counted c.flush.ensures.full;
      few = omega (arith, few, number);
      bounded = omega (arith, few, c.requires.few);
      leads = leads_on s.last w c.copy_into.new.other (shown s.opening.value) (sent s.producer ++ s.behind.items)
          (sent c.flush.new.producer ++ c.flush.new.behind.items) c.in-Ok.cells.items (sym c.requires.same) s.leads
          c.in-Ok.ensures all c.copy_into.ensures;
    }

pub returns-clause-sent : goal.returns-clause-sent
returns-clause-sent c =
    let s = c.args.self.now in
    let w = c.args.next.now in (
      c.in-Ok.cells.items,
      changes_done s.last.graph w.graph (sym c.requires.same) c.in-Ok.cells.items c.in-Ok.ensures,
      omega (arith, c.len-3.ensures, c.in-Ok.cells.ok.0),
      sent_more (sent s.producer) s.behind.items c.put_items.new.behind.items (sent c.flush.new.producer)
          c.flush.new.behind.items (marked c.in-Ok.cells.items w.number) c.flush.ensures.all
          (put_is c.put_items.new.behind.items c.reserve.new.self.items s.behind.items c.in-Ok.cells.items
          c.deref.result.now c.number.result w.number c.put_items.ensures c.reserve.ensures.items c.deref.ensures.value
          c.number.ensures),
    )
