use Rattle.std.proofs.Common.{ℕ, Some, ◌∙◌, ap, subst}
use Rattle.path_book.specs.Book.{Book}
use Rattle.path_book.specs.Layout.{view_of, IsExtensionTo}
use Rattle.path_book.proofs.Lookups.{listed_at, none_listed}
use Rattle.path_book.proofs.book.Book.extension.Goals as goal

pub last-requires : goal.last-requires
last-requires c =
    (listed_at (view_of c.self.inside) c.self.invariant.stored.book c.args.id c.right-longer-items.result.now
    c.right-longer-items.ensures.lent c.loop-longer.longer-index c.longer-item.result c.loop-longer-test.true
    c.longer-item.is).1

pub returns-then-last-v-clause-found : goal.returns-then-last-v-clause-found
returns-then-last-v-clause-found c =
    let listed =
    listed_at (view_of c.self.inside) c.self.invariant.stored.book c.args.id c.right-longer-items.result.now
    c.right-longer-items.ensures.lent c.loop-longer.longer-index c.longer-item.result c.loop-longer-test.true
    c.longer-item.is in
    subst (λ (b : Book). IsExtensionTo b.arena c.args.id c.args.v c.longer-item.result) c.self.view_is
    (listed.0, c.last.ensures.value ∙ ap Some c.if-last-v.true)

pub returns-clause-none : goal.returns-clause-none
returns-clause-none c =
    subst (λ (b : Book). (q : ℕ) → IsExtensionTo b.arena c.args.id c.args.v q → ⊥) c.self.view_is
    (none_listed (view_of c.self.inside) c.self.invariant.stored.book c.args.id c.right-longer-items.result.now
    c.right-longer-items.ensures.lent c.args.v c.loop-longer.longer-index c.loop-longer-test.false
    c.loop-longer.invariant)
