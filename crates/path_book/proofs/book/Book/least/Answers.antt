use Rattle.std.proofs.Common.{◌<◌, MatchOption, sym, subst}
use Rattle.path_book.specs.Book.{KeepsNone, IsLeastKeptId}
use Rattle.path_book.specs.Layout.{view_of}
use Rattle.path_book.proofs.Readers.{least_kept, least_single}
use Rattle.path_book.proofs.book.Book.least.Goals as goal

pub returns-then-x-y-clause-least : goal.returns-then-x-y-clause-least
returns-then-x-y-clause-least c =
    let inside = c.self.inside in
    subst (λ b. IsLeastKeptId b c.args.x c.args.y c.vertex.result) c.self.view_is
    (subst (λ y. IsLeastKeptId (view_of inside) c.args.x y c.vertex.result) c.if-x-y.true
    (subst (λ id. IsLeastKeptId (view_of inside) c.args.x c.args.x id) (sym c.vertex.ensures.value)
    (least_single (view_of inside) c.self.invariant.stored.book c.args.x
    (subst (λ b. c.args.x < b.arena.vertices) (sym c.self.view_is) c.requires.from))))

pub returns-else-x-y-clause-least : goal.returns-else-x-y-clause-least
returns-else-x-y-clause-least c =
    subst (λ b. MatchOption c.least.result (KeepsNone b c.args.x c.args.y) (IsLeastKeptId b c.args.x c.args.y))
    c.self.view_is
    (least_kept (view_of c.self.inside) c.self.inside.heaps _ _ c.args.x c.args.y c.self.invariant.stored c.if-x-y.false
    c.least.result c.least.ensures.least c.least.ensures.none)
