use Rattle.std.proofs.Common.{◌∙◌, ap, sym, arith, length, take}
use Rattle.id_pool.specs.Lists.{Held}
use Rattle.id_pool.specs.Heads.{shape}
use Rattle.id_pool.proofs.Laid.{placed_at, inside_heads, held_at, length_ids, mark_most}
use Rattle.id_pool.proofs.lists.Lists.marked_ids.Goals as goal

pub marked_ids-requires : goal.marked_ids-requires
marked_ids-requires c =
    placed_at c.self.inside.heads.items c.self.inside.blocks.ids.items c.self.inside.blocks.free c.args.list
    c.index-head.result.now c.self.invariant
    (inside_heads c.self.inside.heads.items c.self.inside.blocks.ids.items c.args.self.now c.args.list c.self.view_is
    c.requires)
    c.index-head.ensures

pub returns-clause-lent : goal.returns-clause-lent
returns-clause-lent c =
    c.marked_ids.ensures ∙ sym (ap (λ (h : Held). take h.marked h.ids)
    (held_at c.self.inside.heads.items c.self.inside.blocks.ids.items c.args.self.now c.args.list
    c.index-head.result.now c.self.view_is c.requires c.index-head.ensures))

pub returns-clause-most : goal.returns-clause-most
returns-clause-most c =
    let ids = c.self.inside.blocks.ids.items in
    let head = c.index-head.result.now in
    let placed =
    placed_at c.self.inside.heads.items ids c.self.inside.blocks.free c.args.list head c.self.invariant
    (inside_heads c.self.inside.heads.items ids c.args.self.now c.args.list c.self.view_is c.requires)
    c.index-head.ensures in
    let held =
    held_at c.self.inside.heads.items ids c.args.self.now c.args.list head c.self.view_is c.requires
    c.index-head.ensures in
    omega (
      arith,
      ap (λ (h : Held). length h.ids) held,
      length_ids ids c.self.inside.blocks.free (shape head) placed,
      mark_most ids c.self.inside.blocks.free (shape head) placed,
      ap (λ (h : Held). h.marked) held,
    )
