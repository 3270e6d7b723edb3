use Rattle.std.proofs.Common.{sym, subst}
use Rattle.local_engine.specs.Demoting.{AreLonger}
use Rattle.local_engine.proofs.Forgetting.{longer_has_edge, longer_is_free, still_edge, then_free, all_forgotten}
use Rattle.local_engine.proofs.demotion.forget_from.Goals as goal

pub forget_each-requires-clause-edges : goal.forget_each-requires-clause-edges
forget_each-requires-clause-edges c =
    λ k m. longer_has_edge c.args.book.now c.args.id k c.show_lawful.ensures
    (((subst (AreLonger c.args.book.now c.args.id) (sym c.deref.ensures.value) c.in_ok-longer.ensures.longer).exact
    k).0 m)

pub forget_each-requires-clause-free : goal.forget_each-requires-clause-free
forget_each-requires-clause-free c =
    λ k m. longer_is_free c.args.book.now c.args.id k c.show_lawful.ensures c.requires.last
    (((subst (AreLonger c.args.book.now c.args.id) (sym c.deref.ensures.value) c.in_ok-longer.ensures.longer).exact
    k).0 m)

pub forget-requires-clause-edge : goal.forget-requires-clause-edge
forget-requires-clause-edge c =
    still_edge c.args.book.now c.forget_each.new.book c.args.id c.deref.result.now c.show_lawful.ensures
    c.requires.edge (subst (AreLonger c.args.book.now c.args.id) (sym c.deref.ensures.value)
    c.in_ok-longer.ensures.longer) c.forget_each.ensures.forgotten

pub forget-requires-clause-free : goal.forget-requires-clause-free
forget-requires-clause-free c =
    then_free c.args.book.now c.forget_each.new.book c.args.id c.deref.result.now c.show_lawful.ensures
    c.requires.edge (subst (AreLonger c.args.book.now c.args.id) (sym c.deref.ensures.value)
    c.in_ok-longer.ensures.longer) c.forget_each.ensures.forgotten c.forget_each.ensures.lawful

pub returns-clause-forgotten : goal.returns-clause-forgotten
returns-clause-forgotten c = all_forgotten c.args.book.now c.forget_each.new.book c.args.id c.deref.result.now
    c.show_lawful.ensures c.requires.edge
    (subst (AreLonger c.args.book.now c.args.id) (sym c.deref.ensures.value) c.in_ok-longer.ensures.longer)
    c.forget_each.ensures.forgotten c.forget.new.self c.forget.ensures.forgotten
