use Rattle.std.proofs.Common.{◌*◌, sym, subst, arith}
use Rattle.apsp_model.specs.Walk.{IsOnceEach}
use Rattle.extension_lists.specs.Known.{Known, IsUnstarred}
use Rattle.extension_lists.specs.Slots.{known_by}
use Rattle.extension_lists.proofs.Shown.{inside_then, flag_at, ids_other}
use Rattle.extension_lists.proofs.Whole.{sound_starred, is_unstarred}
use Rattle.extension_lists.proofs.lists.Lists.drop_star.Goals as goal

pub unstar-requires-clause-inside : goal.unstar-requires-clause-inside
unstar-requires-clause-inside c =
    inside_then c.self.inside.known.items c.self.inside.pool c.args.self.now c.args.l c.key.result c.self.view_is
    c.self.invariant c.requires.known_l c.key.ensures.value

pub unstar-requires-clause-once : goal.unstar-requires-clause-once
unstar-requires-clause-once c = c.self.invariant.once _

pub unstar-requires-2-clause-inside : goal.unstar-requires-2-clause-inside
unstar-requires-2-clause-inside c =
    omega (
      arith,
      c.unstar.ensures.only.many,
      inside_then c.self.inside.known.items c.self.inside.pool c.args.self.now
          c.args.r c.key-2.result c.self.view_is c.self.invariant c.requires.known_r c.key-2.ensures.value,
    )

pub unstar-requires-2-clause-once : goal.unstar-requires-2-clause-once
unstar-requires-2-clause-once c =
    subst IsOnceEach (sym (ids_other c.self.inside.pool c.unstar.new.pool _ (2 * c.key-2.result) c.unstar.ensures.only
    (λ e. omega arith))) (c.self.invariant.once (2 * c.key-2.result))

pub invariant_of-self : goal.invariant_of-self
invariant_of-self c =
    sound_starred c.self.inside.known.items c.self.inside.pool c.unstar.new.pool c.unstar-2.new.pool c.args.id
    c.key.result c.key-2.result c.self.invariant
    (flag_at c.self.inside.known.items c.self.inside.pool c.args.self.now c.args.l c.key.result c.self.view_is
    c.requires.known_l c.key.ensures.value)
    (flag_at c.self.inside.known.items c.self.inside.pool c.args.self.now c.args.r c.key-2.result c.self.view_is
    c.requires.known_r c.key-2.ensures.value)
    c.unstar.ensures.only c.unstar-2.ensures.only c.unstar.ensures.moved c.unstar-2.ensures.moved

pub returns : goal.returns
returns c =
    let new = known_by c.self.inside.known.items c.unstar-2.new.pool in
    subst (λ r. IsUnstarred c.args.self.now new c.args.id c.args.l r) c.key-2.ensures.value
    (subst (λ l. IsUnstarred c.args.self.now new c.args.id l c.key-2.result) c.key.ensures.value
    (subst (λ (m : Known). IsUnstarred m new c.args.id c.key.result c.key-2.result) c.self.view_is
    (is_unstarred c.self.inside.known.items c.self.inside.pool c.unstar.new.pool c.unstar-2.new.pool c.args.id
    c.key.result c.key-2.result c.self.invariant
    (flag_at c.self.inside.known.items c.self.inside.pool c.args.self.now c.args.l c.key.result c.self.view_is
    c.requires.known_l c.key.ensures.value)
    (flag_at c.self.inside.known.items c.self.inside.pool c.args.self.now c.args.r c.key-2.result c.self.view_is
    c.requires.known_r c.key-2.ensures.value)
    c.unstar.ensures.only c.unstar-2.ensures.only c.unstar.ensures.moved c.unstar-2.ensures.moved c.unstar.ensures.stars
    c.unstar-2.ensures.stars)))
