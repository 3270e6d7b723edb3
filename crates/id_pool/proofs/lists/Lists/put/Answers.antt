use Rattle.std.proofs.Common.{◌∙◌, ap, sym, arith, [], ◌∷◌, ◌++◌, length, set}
use Rattle.std.specs.Prelude.{OnOk}
use Rattle.std.proofs.lemmas.Result.{on_ok_weaker}
use Rattle.id_pool.specs.Lists.{Held}
use Rattle.id_pool.specs.Heads.{shape, held_of}
use Rattle.id_pool.specs.Layout.{lists_of}
use Rattle.id_pool.proofs.Laid.{IsWritten, on_ok_both, laid_put, put_back, written, placed_at, inside_heads, mark_most, length_ids}
use Rattle.id_pool.proofs.lists.Lists.put.Goals as goal

pub put-requires : goal.put-requires
put-requires c =
    placed_at c.self.inside.heads.items c.self.inside.blocks.ids.items c.self.inside.blocks.free c.args.list
    c.index_mut-head.result.now c.self.invariant
    (inside_heads c.self.inside.heads.items c.self.inside.blocks.ids.items c.args.self.now c.args.list c.self.view_is
    c.requires) c.index_mut-head.ensures.value

pub invariant_of-self : goal.invariant_of-self
invariant_of-self c =
    laid_put c.put.result c.self.inside.heads.items c.self.inside.blocks.ids.items c.self.inside.blocks.free
    c.put.new.blocks.ids.items c.put.new.blocks.free c.args.list c.index_mut-head.result.now c.put.new.self
    c.self.invariant (inside_heads c.self.inside.heads.items c.self.inside.blocks.ids.items c.args.self.now c.args.list
    c.self.view_is c.requires) c.index_mut-head.ensures.value c.put.ensures.moved c.put.ensures.err_head
    c.put.ensures.err_ids c.put.ensures.err_free

is_written : (c : goal.After-self-1) → OnOk c.put.result
    (IsWritten c.args.self.now (lists_of c.put.new.blocks.ids.items
    (set c.self.inside.heads.items c.args.list c.put.new.self)) c.args.list
    (held_of c.self.inside.blocks.ids.items (shape c.index_mut-head.result.now))
    (held_of c.put.new.blocks.ids.items (shape c.put.new.self)))
is_written c =
    on_ok_weaker c.put.result (written c.self.inside.heads.items c.self.inside.blocks.ids.items
    c.self.inside.blocks.free c.put.new.blocks.ids.items c.put.new.blocks.free c.args.list c.index_mut-head.result.now
    c.put.new.self c.args.self.now c.self.view_is c.self.invariant c.requires c.index_mut-head.ensures.value)
    c.put.ensures.moved

pub returns-clause-only : goal.returns-clause-only
returns-clause-only c = on_ok_weaker c.put.result (λ w. w.only) (is_written c)

pub returns-clause-ids : goal.returns-clause-ids
returns-clause-ids c =
    on_ok_both c.put.result (λ w ids. ap (λ (h : Held). h.ids) w.after ∙ ids
    ∙ sym (ap (λ (h : Held). h.ids ++ c.args.id ∷ []) w.before)) (is_written c) c.put.ensures.ids

pub returns-clause-marked : goal.returns-clause-marked
returns-clause-marked c =
    on_ok_both c.put.result (λ w mark. ap (λ (h : Held). h.marked) w.after ∙ mark
    ∙ sym (ap (λ (h : Held). h.marked) w.before)) (is_written c) c.put.ensures.mark

pub returns-clause-most : goal.returns-clause-most
returns-clause-most c =
    let ids = c.self.inside.blocks.ids.items in
    let head = c.index_mut-head.result.now in
    let placed =
    placed_at c.self.inside.heads.items ids c.self.inside.blocks.free c.args.list head c.self.invariant
    (inside_heads c.self.inside.heads.items ids c.args.self.now c.args.list c.self.view_is c.requires)
    c.index_mut-head.ensures.value in
    on_ok_weaker c.put.result (λ w. omega (
      arith,
      mark_most ids c.self.inside.blocks.free (shape head) placed,
      length_ids ids c.self.inside.blocks.free
          (shape head) placed,
      ap (λ (h : Held). h.marked) w.before,
      ap (λ (h : Held). length h.ids) w.before,
    ))
    (is_written c)

pub returns-clause-err : goal.returns-clause-err
returns-clause-err c =
    put_back c.put.result c.self.inside.heads.items c.self.inside.blocks.ids.items c.put.new.blocks.ids.items
    c.args.list c.index_mut-head.result.now c.put.new.self c.args.self.now c.self.view_is c.index_mut-head.ensures.value
    c.put.ensures.err_head c.put.ensures.err_ids
