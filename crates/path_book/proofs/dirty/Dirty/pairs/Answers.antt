use Rattle.std.proofs.Common.{◌≡◌, ◌<◌, true, Contains, sym, ap, subst}
use Rattle.apsp_model.specs.Walk.{IsOnceEach}
use Rattle.path_book.specs.Dirty.{Dirty, flag_at}
use Rattle.path_book.proofs.dirty.Dirty.pairs.Goals as goal

pub returns-clause-inside : goal.returns-clause-inside
returns-clause-inside c =
    λ p here. subst (λ n. (p.0 < n) × (p.1 < n)) (ap (λ (d : Dirty). d.vertices) c.self.view_is)
    (c.self.invariant.inside p (subst (λ ps. Contains ps p) c.deref.ensures.value here))

pub returns-clause-once : goal.returns-clause-once
returns-clause-once c = subst IsOnceEach (sym c.deref.ensures.value) c.self.invariant.once

pub returns-clause-all : goal.returns-clause-all
returns-clause-all c = λ x y x_in y_in up.
    let as_many = sym (ap (λ (d : Dirty). d.vertices) c.self.view_is) in
    subst (λ ps. Contains ps (x, y)) (sym c.deref.ensures.value)
    (c.self.invariant.all x y (subst (λ n. x < n) as_many x_in) (subst (λ n. y < n) as_many y_in)
    (subst (λ (d : Dirty). flag_at d x y ≡ true) (sym c.self.view_is) up))
