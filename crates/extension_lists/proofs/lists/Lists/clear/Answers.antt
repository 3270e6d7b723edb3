use Rattle.std.proofs.Common.{◌∙◌, ap}
use Rattle.std.specs.FinMap as map
use Rattle.extension_lists.specs.Known.{Known, no_sides}
use Rattle.extension_lists.proofs.Shown.{inside_then, flag_at}
use Rattle.extension_lists.proofs.Leaving.{sound_cleared, is_cleared}
use Rattle.extension_lists.proofs.lists.Lists.clear.Goals as goal

pub clear_both-requires : goal.clear_both-requires
clear_both-requires c = record {
  inside = inside_then c.self.inside.known.items c.self.inside.pool c.args.self.now c.args.id c.key.result
      c.self.view_is c.self.invariant c.requires c.key.ensures.value;
  small = c.key.ensures.small;
}

pub invariant_of-self : goal.invariant_of-self
invariant_of-self c =
    sound_cleared c.self.inside.known.items c.self.inside.pool c.clear_both.new.pool c.key.result c.self.invariant
    (flag_at c.self.inside.known.items c.self.inside.pool c.args.self.now c.args.id c.key.result c.self.view_is
    c.requires c.key.ensures.value) c.clear_both.ensures

pub returns : goal.returns
returns c =
    is_cleared c.self.inside.known.items c.self.inside.pool c.clear_both.new.pool c.key.result c.self.invariant
    (flag_at c.self.inside.known.items c.self.inside.pool c.args.self.now c.args.id c.key.result c.self.view_is
    c.requires c.key.ensures.value) c.clear_both.ensures
    ∙ ap (λ (m : Known). map.insert m c.key.result no_sides) c.self.view_is
    ∙ ap (λ k. map.insert c.args.self.now k no_sides) c.key.ensures.value
