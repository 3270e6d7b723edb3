use Rattle.std.proofs.Common.{rules, ◌≡◌, ◌≤◌, ◌++◌, length, ◌∙◌, ap, arith}
use Rattle.std.specs.FinMap as fin
use Rattle.extension_lists.specs.Known.{Known, sides_at}
use Rattle.local_engine.proofs.Searching.{queue_starts, queue_goes_on, queue_ends, members, each_once, live_are_few}
use Rattle.local_engine.proofs.search.historical.Goals as goal

pub queue-init : goal.queue-init
queue-init c = (
  c.show_lawful.ensures,
  queue_starts c.args.book.now c.show_lawful.ensures c.args.n
      c.in_ok-queue.queue.items c.requires.vertices c.in_ok-queue.ensures.singles,
)

pub queue-smaller : goal.queue-smaller
queue-smaller c =
    let q = c.queue.invariant.1 in
    let was = c.queue.invariant.0 in
    let few : length c.queue.queue.items ≤ length (fin.entries c.args.book.now.arena.paths) =
    live_are_few c.args.book.now c.queue.queue.items
    (each_once c.args.book.now was c.queue.queue.items c.queue.done q)
    (λ x m. was.marked_live x (members c.args.book.now was c.queue.queue.items c.queue.done q x m)) in
    omega (arith, few, c.queue-test.true, c.len.ensures)

pub queue-preserved : goal.queue-preserved
queue-preserved c =
    let is : c.extend_from_slice.new.self.items ≡ c.queue.queue.items ++ c.right_star-longer.result.now = search rules in (
      c.queue.invariant.0,
      queue_goes_on c.args.book.now c.queue.invariant.0 c.queue.queue.items c.queue.done c.queue.invariant.1
          c.index.result.now c.right_star-longer.result.now c.extend_from_slice.new.self.items
          (omega (arith, c.queue-test.true, c.len.ensures)) c.index.ensures
          (c.right_star-longer.ensures.lent
          ∙ ap (λ (m : Known). (sides_at m c.index.result.now).right_star) c.lists.ensures.lent)
          c.right_star-longer.ensures.once is,
    )

pub returns : goal.returns
returns c = record {
  marked = queue_ends c.args.book.now c.queue.invariant.0 c.queue.queue.items c.queue.done
      c.queue.invariant.1 (omega (arith, c.queue-test.false, c.len.ensures));
}
