use Rattle.std.proofs.Common.{sym, subst, set}
use Rattle.id_pool.specs.Lists.{Held, IsMarkedAt, list_at}
use Rattle.id_pool.specs.Heads.{shape, held_of}
use Rattle.id_pool.specs.Layout.{lists_of}
use Rattle.id_pool.proofs.Laid.{IsWritten, laid_moved, written, placed_at, inside_heads}
use Rattle.id_pool.proofs.lists.Lists.mark_at.Goals as goal

pub mark_at-requires-clause-placed : goal.mark_at-requires-clause-placed
mark_at-requires-clause-placed c =
    placed_at c.self.inside.heads.items c.self.inside.blocks.ids.items c.self.inside.blocks.free c.args.list
    c.index_mut-head.result.now c.self.invariant
    (inside_heads c.self.inside.heads.items c.self.inside.blocks.ids.items c.args.self.now c.args.list c.self.view_is
    c.requires.inside) c.index_mut-head.ensures.value

pub invariant_of-self : goal.invariant_of-self
invariant_of-self c =
    laid_moved c.self.inside.heads.items c.self.inside.blocks.ids.items c.self.inside.blocks.free
    c.mark_at.new.blocks.ids.items c.mark_at.new.blocks.free c.args.list c.index_mut-head.result.now c.mark_at.new.self
    c.self.invariant (inside_heads c.self.inside.heads.items c.self.inside.blocks.ids.items c.args.self.now c.args.list
    c.self.view_is c.requires.inside) c.index_mut-head.ensures.value c.mark_at.ensures.moved

is_written : (c : goal.After-self-1) → IsWritten c.args.self.now
    (lists_of c.mark_at.new.blocks.ids.items (set c.self.inside.heads.items c.args.list c.mark_at.new.self)) c.args.list
    (held_of c.self.inside.blocks.ids.items (shape c.index_mut-head.result.now))
    (held_of c.mark_at.new.blocks.ids.items (shape c.mark_at.new.self))
is_written c =
    written c.self.inside.heads.items c.self.inside.blocks.ids.items c.self.inside.blocks.free
    c.mark_at.new.blocks.ids.items c.mark_at.new.blocks.free c.args.list c.index_mut-head.result.now c.mark_at.new.self
    c.args.self.now c.self.view_is c.self.invariant c.requires.inside c.index_mut-head.ensures.value
    c.mark_at.ensures.moved

pub returns-clause-only : goal.returns-clause-only
returns-clause-only c = (is_written c).only

pub returns-clause-marked : goal.returns-clause-marked
returns-clause-marked c =
    subst (λ (h : Held). IsMarkedAt h (list_at
    (lists_of c.mark_at.new.blocks.ids.items (set c.self.inside.heads.items c.args.list c.mark_at.new.self))
    c.args.list) c.args.at) (sym (is_written c).before)
    (subst (λ (h : Held). IsMarkedAt (held_of c.self.inside.blocks.ids.items (shape c.index_mut-head.result.now)) h
    c.args.at) (sym (is_written c).after) c.mark_at.ensures.marked)
