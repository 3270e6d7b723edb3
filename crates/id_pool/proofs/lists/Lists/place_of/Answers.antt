use Rattle.std.proofs.Common.{◌≡◌, Some, Contains, length, ap, sym, subst, arith}
use Rattle.std.specs.Prelude.{slice_get}
use Rattle.id_pool.specs.Lists.{Held}
use Rattle.id_pool.specs.Heads.{shape}
use Rattle.id_pool.proofs.Laid.{placed_at, inside_heads, held_at, length_ids, mark_most}
use Rattle.id_pool.proofs.lists.Lists.place_of.Goals as goal

pub place_of-requires-clause-placed : goal.place_of-requires-clause-placed
place_of-requires-clause-placed c =
    placed_at c.self.inside.heads.items c.self.inside.blocks.ids.items c.self.inside.blocks.free c.args.list
    c.index-head.result.now c.self.invariant
    (inside_heads c.self.inside.heads.items c.self.inside.blocks.ids.items c.args.self.now c.args.list c.self.view_is
    c.requires.inside)
    c.index-head.ensures

pub place_of-requires-clause-here : goal.place_of-requires-clause-here
place_of-requires-clause-here c =
    subst (λ (h : Held). Contains h.ids c.args.id)
    (held_at c.self.inside.heads.items c.self.inside.blocks.ids.items c.args.self.now c.args.list
    c.index-head.result.now c.self.view_is c.requires.inside c.index-head.ensures)
    c.requires.here

pub returns-clause-place : goal.returns-clause-place
returns-clause-place c =
    subst (λ (h : Held). slice_get h.ids c.place_of.result ≡ Some c.args.id)
    (sym (held_at c.self.inside.heads.items c.self.inside.blocks.ids.items c.args.self.now c.args.list
    c.index-head.result.now c.self.view_is c.requires.inside c.index-head.ensures))
    c.place_of.ensures

pub returns-clause-most : goal.returns-clause-most
returns-clause-most c =
    let ids = c.self.inside.blocks.ids.items in
    let head = c.index-head.result.now in
    let placed =
    placed_at c.self.inside.heads.items ids c.self.inside.blocks.free c.args.list head c.self.invariant
    (inside_heads c.self.inside.heads.items ids c.args.self.now c.args.list c.self.view_is c.requires.inside)
    c.index-head.ensures in
    let held =
    held_at c.self.inside.heads.items ids c.args.self.now c.args.list head c.self.view_is c.requires.inside
    c.index-head.ensures in
    omega (
      arith,
      length_ids ids c.self.inside.blocks.free (shape head) placed,
      mark_most ids c.self.inside.blocks.free
          (shape head) placed,
      ap (λ (h : Held). h.marked) held,
      ap (λ (h : Held). length h.ids) held,
    )
