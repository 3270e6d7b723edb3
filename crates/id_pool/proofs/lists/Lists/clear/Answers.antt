use Rattle.std.proofs.Common.{◌∙◌, set}
use Rattle.id_pool.specs.Heads.{shape, held_of}
use Rattle.id_pool.specs.Layout.{lists_of}
use Rattle.id_pool.proofs.Laid.{IsWritten, laid_moved, written, placed_at, inside_heads}
use Rattle.id_pool.proofs.lists.Lists.clear.Goals as goal

pub clear-requires : goal.clear-requires
clear-requires c =
    placed_at c.self.inside.heads.items c.self.inside.blocks.ids.items c.self.inside.blocks.free c.args.list
    c.index_mut.result.now c.self.invariant
    (inside_heads c.self.inside.heads.items c.self.inside.blocks.ids.items c.args.self.now c.args.list c.self.view_is
    c.requires) c.index_mut.ensures.value

pub invariant_of-self : goal.invariant_of-self
invariant_of-self c =
    laid_moved c.self.inside.heads.items c.self.inside.blocks.ids.items c.self.inside.blocks.free
    c.clear.new.blocks.ids.items c.clear.new.blocks.free c.args.list c.index_mut.result.now c.clear.new.self
    c.self.invariant (inside_heads c.self.inside.heads.items c.self.inside.blocks.ids.items c.args.self.now c.args.list
    c.self.view_is c.requires) c.index_mut.ensures.value c.clear.ensures.moved

is_written : (c : goal.After-self-1) → IsWritten c.args.self.now
    (lists_of c.clear.new.blocks.ids.items (set c.self.inside.heads.items c.args.list c.clear.new.self)) c.args.list
    (held_of c.self.inside.blocks.ids.items (shape c.index_mut.result.now))
    (held_of c.clear.new.blocks.ids.items (shape c.clear.new.self))
is_written c =
    written c.self.inside.heads.items c.self.inside.blocks.ids.items c.self.inside.blocks.free
    c.clear.new.blocks.ids.items c.clear.new.blocks.free c.args.list c.index_mut.result.now c.clear.new.self
    c.args.self.now c.self.view_is c.self.invariant c.requires c.index_mut.ensures.value c.clear.ensures.moved

pub returns-clause-only : goal.returns-clause-only
returns-clause-only c = (is_written c).only

pub returns-clause-none : goal.returns-clause-none
returns-clause-none c = (is_written c).after ∙ c.clear.ensures.none
