use Rattle.std.proofs.Common.{◌∙◌, ap, arith}
use Rattle.std.specs.FinMap as map
use Rattle.extension_lists.specs.Known.{Known}
use Rattle.extension_lists.proofs.Shown.{inside_then, flag_at, key_in}
use Rattle.extension_lists.proofs.Leaving.{sound_forgotten, is_forgotten}
use Rattle.extension_lists.proofs.lists.Lists.forget.Goals as goal

pub clear_both-requires : goal.clear_both-requires
clear_both-requires c = record {
  inside = inside_then c.self.inside.known.items c.self.inside.pool c.args.self.now c.args.id c.key-gone.result
      c.self.view_is c.self.invariant c.requires c.key-gone.ensures.value;
  small = c.key-gone.ensures.small;
}

pub invariant_of-self : goal.invariant_of-self
invariant_of-self c =
    sound_forgotten c.self.inside.known.items c.self.inside.pool c.clear_both.new.pool c.key-gone.result
    c.self.invariant
    (flag_at c.self.inside.known.items c.self.inside.pool c.args.self.now c.args.id c.key-gone.result c.self.view_is
    c.requires c.key-gone.ensures.value) c.clear_both.ensures

pub returns : goal.returns
returns c =
    is_forgotten c.self.inside.known.items c.self.inside.pool c.clear_both.new.pool c.key-gone.result c.self.invariant
    (flag_at c.self.inside.known.items c.self.inside.pool c.args.self.now c.args.id c.key-gone.result c.self.view_is
    c.requires c.key-gone.ensures.value) c.clear_both.ensures
    (key_in c.self.inside.known.items c.key-gone.result
    (flag_at c.self.inside.known.items c.self.inside.pool c.args.self.now c.args.id c.key-gone.result c.self.view_is
    c.requires c.key-gone.ensures.value))
    ∙ ap (λ (m : Known). map.remove m c.key-gone.result) c.self.view_is
    ∙ ap (λ k. map.remove c.args.self.now k) c.key-gone.ensures.value

pub index_mut-requires : goal.index_mut-requires
index_mut-requires c =
    omega (
      arith,
      key_in c.self.inside.known.items c.key-gone.result
          (flag_at c.self.inside.known.items c.self.inside.pool c.args.self.now c.args.id c.key-gone.result
          c.self.view_is
          c.requires c.key-gone.ensures.value),
      c.self.inside.known.ok.0,
    )
