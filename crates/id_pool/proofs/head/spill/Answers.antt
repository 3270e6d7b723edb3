use Rattle.std.proofs.Common.{◌≡◌, ◌∙◌, ◌+◌, arith, List, ℕ, set, length, get_or, length-set}
use Rattle.std.proofs.lemmas.List.{get_or_default}
use Rattle.id_pool.specs.Blocks.{room_of, IsGiven}
use Rattle.id_pool.proofs.Moves.{IsSameOutside, spilled, set_outside, outside_then}
use Rattle.id_pool.proofs.Parts.{few_written}
use Rattle.id_pool.proofs.head.spill.Goals as goal

same_near : (ids : List ℕ) (to a b e : ℕ)
    → IsSameOutside ids (set (set (set ids to a) (to + 1) b) (to + 2) e) to (room_of 0)
same_near ids to a b e =
    outside_then ids (set (set ids to a) (to + 1) b) (set (set (set ids to a) (to + 1) b) (to + 2) e) to 8
    (length-set (set ids to a) (to + 1) b ∙ length-set ids to a)
    (outside_then ids (set ids to a) (set (set ids to a) (to + 1) b) to 8 (length-set ids to a)
    (set_outside ids to 8 to a (omega arith) (omega arith))
    (set_outside (set ids to a) to 8 (to + 1) b (omega arith) (omega arith)))
    (set_outside (set (set ids to a) (to + 1) b) to 8 (to + 2) e (omega arith) (omega arith))

many_near : (ids : List ℕ) (to a b e : ℕ) → length (set (set (set ids to a) (to + 1) b) (to + 2) e) ≡ length ids
many_near ids to a b e =
    length-set (set (set ids to a) (to + 1) b) (to + 2) e ∙ length-set (set ids to a) (to + 1) b ∙ length-set ids to a

pub returns-clause-moved : goal.returns-clause-moved
returns-clause-moved c = λ mark.
    let ids1 = c.take.new.self.ids.items in
    let to = c.in_ok-to.to in
    let few = c.args.few in
    let a = get_or few 0 c.index-few-0.result in
    let b = get_or few 1 c.index-few-1.result in
    let e = get_or few 2 c.index-few-2.result in
    spilled c.args.blocks.now.ids.items c.args.blocks.now.free ids1 c.take.new.self.free
    (set (set (set ids1 to a) (to + 1) b) (to + 2) e) few 0 3 mark to c.in_ok-to.ensures.ok (omega arith)
    (omega arith) (many_near ids1 to a b e) (same_near ids1 to a b e)

pub returns-clause-ids : goal.returns-clause-ids
returns-clause-ids c =
    let few = c.args.few in
    let t : IsGiven c.args.blocks.now.ids.items c.args.blocks.now.free c.take.new.self.ids.items c.take.new.self.free
    c.in_ok-to.to 0 = c.in_ok-to.ensures.ok in
    few_written few c.take.new.self.ids.items c.in_ok-to.to 3 (get_or few 0 c.index-few-0.result)
    (get_or few 1 c.index-few-1.result) (get_or few 2 c.index-few-2.result) c.requires.three (omega arith) t.inside
    (get_or_default few 0 c.index-few-0.result 0 (omega (arith, c.requires.three)))
    (get_or_default few 1 c.index-few-1.result 0 (omega (arith, c.requires.three)))
    (get_or_default few 2 c.index-few-2.result 0 (omega (arith, c.requires.three)))

pub returns-clause-small : goal.returns-clause-small
returns-clause-small c =
    let t : IsGiven c.args.blocks.now.ids.items c.args.blocks.now.free c.take.new.self.ids.items c.take.new.self.free
    c.in_ok-to.to 0 = c.in_ok-to.ensures.ok in
    omega (
      arith,
      t.inside,
      (t.given c.requires.standing.o c.requires.standing.depth
          c.requires.standing.stands).stands.small,
    )
