use Rattle.std.proofs.Common.{◌≡◌, ◌+◌, ◌<◌, sym, subst, arith}
use Rattle.id_pool.specs.Heads.{Shape, shape, far_of, IsMoved}
use Rattle.id_pool.proofs.Moves.{moved_then, placed_moved}
use Rattle.id_pool.proofs.Shapes.{far_is}
use Rattle.id_pool.proofs.head.Head.take_far.Goals as goal

pub stand_in_place-requires-clause-placed : goal.stand_in_place-requires-clause-placed
stand_in_place-requires-clause-placed c =
    placed_moved c.args.blocks.now.ids.items c.args.blocks.now.free c.close.new.blocks.ids.items c.close.new.blocks.free
    (far_of c.args.self.now) (far_of c.close.new.self) c.requires.placed c.close.ensures.moved

pub returns-then-self-eq3-clause-moved : goal.returns-then-self-eq3-clause-moved
returns-then-self-eq3-clause-moved c =
    moved_then c.args.blocks.now.ids.items c.args.blocks.now.free c.close.new.blocks.ids.items c.close.new.blocks.free
    c.stand_in_place.new.blocks.ids.items c.stand_in_place.new.blocks.free
    (far_of c.args.self.now) (far_of c.close.new.self) (shape c.stand_in_place.new.self) c.close.ensures.moved
    c.stand_in_place.ensures.moved

pub returns-else-self-eq3-clause-moved : goal.returns-else-self-eq3-clause-moved
returns-else-self-eq3-clause-moved c =
    let len : c.close.new.self.len + 1 ≡ c.args.self.now.len = c.close.ensures.len in
    let many : 3 < c.close.new.self.len = omega (arith, len, c.requires.many, c.if-self-eq3.false) in
    subst (λ (s : Shape). IsMoved c.args.blocks.now.ids.items c.args.blocks.now.free (far_of c.args.self.now)
    c.close.new.blocks.ids.items c.close.new.blocks.free s) (sym (far_is c.close.new.self many))
    c.close.ensures.moved
