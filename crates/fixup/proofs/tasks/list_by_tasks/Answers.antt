use Rattle.std.proofs.Common.{◌≡◌, ℕ, ◌<◌, List, ◌++◌, length, slice_index_or, sym, ◌∙◌, ap, subst, arith, Vec, Global}
use Rattle.fixup.specs.declared.listing.Join.{Join}
use Rattle.fixup.specs.Listing.{ListsAt}
use Rattle.fixup.proofs.Wholes.{each_once}
use Rattle.fixup.proofs.Adding.{all_start, task_more, all_end}
use Rattle.fixup.proofs.tasks.list_by_tasks.Goals as goal

pub lists-init : goal.lists-init
lists-init g c = all_start c.args.book.now c.args.winners.now c.requires.class c.args.joins.now.items

pub lists-preserved : goal.lists-preserved
lists-preserved g c =
    let k : ℕ = c.lists.list-index in
    let x : Vec Join Global = c.list-item.result in
    let same : c.answers-list-items.result.now ≡ c.in_ok-lists.lists = c.answers-list-items.ensures in
    let inside : k < length c.args.winners.now =
    omega (arith, c.lists-test.true, ap length same, c.in_ok-lists.ensures.len, c.requires.all) in
    let is : slice_index_or c.in_ok-lists.lists k x ≡ x =
    ap (λ (xs : List (Vec Join Global)). slice_index_or xs k x) (sym same) ∙ sym c.list-item.is in
    let given : ListsAt (record { book = c.args.book.now; winners = c.args.winners.now }) k x.items =
    subst (λ (v : Vec Join Global). ListsAt (record { book = c.args.book.now; winners = c.args.winners.now }) k v.items)
    is (c.in_ok-lists.ensures.each k x (omega (arith, inside, c.requires.all))) in
    task_more c.args.book.now c.args.winners.now c.requires.class
    (each_once c.args.book.now.arena c.args.winners.now c.requires.class.in_order) k inside
    c.args.joins.now.items c.lists.joins.items x.items c.extend_from_slice.new.self.items c.lists.invariant given
    (c.in-Ok.ensures.items ∙ ap (λ (l : List Join). c.lists.joins.items ++ l) c.as_slice.ensures.value)

pub returns : goal.returns
returns g c =
    let same : c.answers-list-items.result.now ≡ c.in_ok-lists.lists = c.answers-list-items.ensures in
    record {
      listed = all_end c.args.book.now c.args.winners.now c.requires.class c.lists.list-index
          c.args.joins.now.items c.lists.joins.items
          (omega (arith, c.lists-test.false, ap length same, c.in_ok-lists.ensures.len, c.requires.all))
          c.lists.invariant;
    }
