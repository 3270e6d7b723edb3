use Rattle.std.proofs.Common.{◌∙◌, ap, sym, subst, arith}
use Rattle.std.specs.Prelude.{Contains}
use Rattle.extension_lists.specs.Known.{Known, added}
use Rattle.extension_lists.proofs.Shown.{inside_then, flag_at, left_read, right_read}
use Rattle.extension_lists.proofs.Whole.{sound_added, is_added, same_all, same_back, known_back}
use Rattle.extension_lists.proofs.lists.Lists.add.Goals as goal

pub put-requires : goal.put-requires
put-requires c =
    inside_then c.self.inside.known.items c.self.inside.pool c.args.self.now c.args.l c.key.result c.self.view_is
    c.self.invariant c.requires.known_l c.key.ensures.value

pub put-requires-2 : goal.put-requires-2
put-requires-2 c =
    omega (
      arith,
      c.in_ok-put.ensures.only.many,
      inside_then c.self.inside.known.items c.self.inside.pool
          c.args.self.now c.args.r c.key-left.result c.self.view_is c.self.invariant c.requires.known_r
          c.key-left.ensures.value,
    )

pub invariant_of-self-in-Ok : goal.invariant_of-self-in-Ok
invariant_of-self-in-Ok c =
    sound_added c.self.inside.known.items c.self.inside.pool c.self.inside.pool c.put.new.self c.put-2.new.self
    c.args.id c.key.result c.key-left.result c.self.invariant
    (flag_at c.self.inside.known.items c.self.inside.pool c.args.self.now c.args.l c.key.result c.self.view_is
    c.requires.known_l c.key.ensures.value)
    (flag_at c.self.inside.known.items c.self.inside.pool c.args.self.now c.args.r c.key-left.result c.self.view_is
    c.requires.known_r c.key-left.ensures.value)
    (same_all c.self.inside.pool) c.in_ok-put.ensures.only c.in-Ok.ensures.only c.in_ok-put.ensures.ids
    c.in-Ok.ensures.ids
    (subst (λ xs. Contains xs c.args.id → ⊥)
    (sym (right_read c.self.inside.known.items c.self.inside.pool c.args.self.now c.args.l c.key.result
    c.self.view_is c.self.invariant c.key.ensures.value)) c.requires.new_right)
    (subst (λ xs. Contains xs c.args.id → ⊥)
    (sym (left_read c.self.inside.known.items c.self.inside.pool c.args.self.now c.args.r c.key-left.result
    c.self.view_is c.self.invariant c.key-left.ensures.value)) c.requires.new_left)

pub returns-in-Ok-clause-ok : goal.returns-in-Ok-clause-ok
returns-in-Ok-clause-ok c =
    is_added c.self.inside.known.items c.self.inside.pool c.self.inside.pool c.put.new.self c.put-2.new.self c.args.id
    c.key.result c.key-left.result c.self.invariant
    (flag_at c.self.inside.known.items c.self.inside.pool c.args.self.now c.args.l c.key.result c.self.view_is
    c.requires.known_l c.key.ensures.value)
    (flag_at c.self.inside.known.items c.self.inside.pool c.args.self.now c.args.r c.key-left.result c.self.view_is
    c.requires.known_r c.key-left.ensures.value)
    (same_all c.self.inside.pool) c.in_ok-put.ensures.only c.in-Ok.ensures.only c.in_ok-put.ensures.ids
    c.in-Ok.ensures.ids
    c.in_ok-put.ensures.marked c.in_ok-put.ensures.most c.in-Ok.ensures.marked c.in-Ok.ensures.most
    ∙ ap (λ (m : Known). added m c.args.id c.key.result c.key-left.result) c.self.view_is
    ∙ ap (λ l. added c.args.self.now c.args.id l c.key-left.result) c.key.ensures.value
    ∙ ap (λ r. added c.args.self.now c.args.id c.args.l r) c.key-left.ensures.value

pub returns-in-Err-clause-err : goal.returns-in-Err-clause-err
returns-in-Err-clause-err c =
    known_back c.self.inside.known.items c.self.inside.pool c.take_back.new.pool
    (same_back c.self.inside.pool c.put.new.self c.put-2.new.self c.take_back.new.pool _ c.args.id
    c.in_ok-put.ensures.only c.in_ok-put.ensures.ids c.in_ok-put.ensures.marked c.in-Err.ensures.err
    c.take_back.ensures.only c.take_back.ensures.ids c.take_back.ensures.marked)
    ∙ c.self.view_is
