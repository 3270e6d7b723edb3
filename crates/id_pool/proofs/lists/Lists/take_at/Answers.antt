use Rattle.std.proofs.Common.{ap, sym, subst, arith, length, set}
use Rattle.id_pool.specs.Lists.{Held, IsTakenAt, list_at}
use Rattle.id_pool.specs.Heads.{shape, held_of}
use Rattle.id_pool.specs.Layout.{lists_of}
use Rattle.id_pool.proofs.Laid.{IsWritten, laid_moved, written, placed_at, inside_heads, mark_most, length_ids}
use Rattle.id_pool.proofs.lists.Lists.take_at.Goals as goal

pub take_at-requires-clause-placed : goal.take_at-requires-clause-placed
take_at-requires-clause-placed c =
    placed_at c.self.inside.heads.items c.self.inside.blocks.ids.items c.self.inside.blocks.free c.args.list
    c.index_mut-head.result.now c.self.invariant
    (inside_heads c.self.inside.heads.items c.self.inside.blocks.ids.items c.args.self.now c.args.list c.self.view_is
    c.requires.inside) c.index_mut-head.ensures.value

pub invariant_of-self : goal.invariant_of-self
invariant_of-self c =
    laid_moved c.self.inside.heads.items c.self.inside.blocks.ids.items c.self.inside.blocks.free
    c.take_at.new.blocks.ids.items c.take_at.new.blocks.free c.args.list c.index_mut-head.result.now c.take_at.new.self
    c.self.invariant (inside_heads c.self.inside.heads.items c.self.inside.blocks.ids.items c.args.self.now c.args.list
    c.self.view_is c.requires.inside) c.index_mut-head.ensures.value c.take_at.ensures.moved

is_written : (c : goal.After-self-1) → IsWritten c.args.self.now
    (lists_of c.take_at.new.blocks.ids.items (set c.self.inside.heads.items c.args.list c.take_at.new.self)) c.args.list
    (held_of c.self.inside.blocks.ids.items (shape c.index_mut-head.result.now))
    (held_of c.take_at.new.blocks.ids.items (shape c.take_at.new.self))
is_written c =
    written c.self.inside.heads.items c.self.inside.blocks.ids.items c.self.inside.blocks.free
    c.take_at.new.blocks.ids.items c.take_at.new.blocks.free c.args.list c.index_mut-head.result.now c.take_at.new.self
    c.args.self.now c.self.view_is c.self.invariant c.requires.inside c.index_mut-head.ensures.value
    c.take_at.ensures.moved

pub returns-clause-only : goal.returns-clause-only
returns-clause-only c = (is_written c).only

pub returns-clause-taken : goal.returns-clause-taken
returns-clause-taken c =
    subst (λ (h : Held). IsTakenAt h (list_at
    (lists_of c.take_at.new.blocks.ids.items (set c.self.inside.heads.items c.args.list c.take_at.new.self))
    c.args.list) c.args.at) (sym (is_written c).before)
    (subst (λ (h : Held). IsTakenAt (held_of c.self.inside.blocks.ids.items (shape c.index_mut-head.result.now)) h
    c.args.at) (sym (is_written c).after) c.take_at.ensures.taken)

pub returns-clause-most : goal.returns-clause-most
returns-clause-most c =
    let placed =
    placed_at c.self.inside.heads.items c.self.inside.blocks.ids.items c.self.inside.blocks.free c.args.list
    c.index_mut-head.result.now c.self.invariant
    (inside_heads c.self.inside.heads.items c.self.inside.blocks.ids.items c.args.self.now c.args.list
    c.self.view_is c.requires.inside) c.index_mut-head.ensures.value in
    omega (
      arith,
      mark_most c.self.inside.blocks.ids.items c.self.inside.blocks.free (shape c.index_mut-head.result.now)
          placed,
      length_ids c.self.inside.blocks.ids.items c.self.inside.blocks.free (shape c.index_mut-head.result.now)
          placed,
      ap (λ (h : Held). h.marked) (is_written c).before,
      ap (λ (h : Held). length h.ids)
          (is_written c).before,
    )
