use Rattle.std.proofs.Common.{subst, arith}
use Rattle.extension_lists.specs.Known.{Known, IsTakenFromRight}
use Rattle.extension_lists.specs.Slots.{known_by}
use Rattle.extension_lists.proofs.Shown.{inside_then, flag_at}
use Rattle.extension_lists.proofs.Leaving.{sound_from_right, taken_from_right}
use Rattle.extension_lists.proofs.lists.Lists.drop_right.Goals as goal

pub take_out-requires-clause-inside : goal.take_out-requires-clause-inside
take_out-requires-clause-inside c =
    omega (
      arith,
      inside_then c.self.inside.known.items c.self.inside.pool c.args.self.now c.args.l c.key.result
          c.self.view_is c.self.invariant c.requires c.key.ensures.value,
    )

pub invariant_of-self : goal.invariant_of-self
invariant_of-self c =
    sound_from_right c.self.inside.known.items c.self.inside.pool c.take_out.new.pool c.args.id c.key.result
    c.self.invariant
    (flag_at c.self.inside.known.items c.self.inside.pool c.args.self.now c.args.l c.key.result c.self.view_is
    c.requires c.key.ensures.value)
    c.take_out.ensures.only c.take_out.ensures.without c.take_out.ensures.stars

pub returns : goal.returns
returns c =
    let new = known_by c.self.inside.known.items c.take_out.new.pool in
    subst (λ k. IsTakenFromRight c.args.self.now new c.args.id k) c.key.ensures.value
    (subst (λ (m : Known). IsTakenFromRight m new c.args.id c.key.result) c.self.view_is
    (taken_from_right c.self.inside.known.items c.self.inside.pool c.take_out.new.pool c.args.id c.key.result
    c.self.invariant
    (flag_at c.self.inside.known.items c.self.inside.pool c.args.self.now c.args.l c.key.result c.self.view_is
    c.requires c.key.ensures.value)
    c.take_out.ensures.only c.take_out.ensures.without c.take_out.ensures.stars))
