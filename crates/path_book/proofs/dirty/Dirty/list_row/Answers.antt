use Rattle.std.proofs.Common.{◌<◌, sym, ap, subst, arith}
use Rattle.path_book.specs.Dirty.{Dirty}
use Rattle.path_book.proofs.dirty.Dirty.list_row.Goals as goal

pub list_pair-requires-clause-from : goal.list_pair-requires-clause-from
list_pair-requires-clause-from c = subst (λ n. c.args.x < n) (sym c.row.invariant.vertices) c.requires.from

pub list_pair-requires-clause-to : goal.list_pair-requires-clause-to
list_pair-requires-clause-to c =
    omega (arith, c.row-test.true, ap (λ (d : Dirty). d.vertices) c.self.view_is, c.row.invariant.vertices)
