use Rattle.std.proofs.Common.{◌≡◌, ◌++◌, subst, ◌∙◌, ap, rules, arith}
use Rattle.apsp_model.specs.Walk.{IsOnceEach}
use Rattle.extension_lists.specs.Known.{sides_at}
use Rattle.book_widening.proofs.Longer.{behind_none, behind_more, next_level}
use Rattle.book_widening.proofs.widening.extensions.Goals as goal

pub level-init : goal.level-init
level-init c = behind_none c.args.book.now c.args.level.now c.new-longer.result.items c.new-longer.ensures.items

pub level-preserved : goal.level-preserved
level-preserved c =
    let lent : c.right.result.now ≡ (sides_at c.args.book.now.lists c.id-item.result).right =
    c.right.ensures.lent ∙ ap (λ k. (sides_at k c.id-item.result).right) c.lists.ensures.lent in
    let longer : c.extend_from_slice.new.self.items ≡ c.level.longer.items ++ c.right.result.now = search rules in
    behind_more c.args.book.now c.args.level.now c.level.id-index c.id-item.result c.level.longer.items
    c.extend_from_slice.new.self.items c.level.invariant c.level-test.true c.id-item.is
    (longer ∙ ap (λ xs. c.level.longer.items ++ xs) lent) (subst IsOnceEach lent c.right.ensures.once)

pub returns : goal.returns
returns c =
    next_level c.args.book.now c.show_lawful.ensures c.args.level.now c.level.id-index c.level.longer.items
    (omega (arith, c.level-test.false)) c.level.invariant
