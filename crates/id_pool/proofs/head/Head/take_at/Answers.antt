use Rattle.std.proofs.Common.{sym, subst}
use Rattle.id_pool.specs.Heads.{Shape, shape, IsMoved}
use Rattle.id_pool.proofs.Shapes.{far_is}
use Rattle.id_pool.proofs.head.Head.take_at.Goals as goal

pub returns-then-self-gt3-clause-moved : goal.returns-then-self-gt3-clause-moved
returns-then-self-gt3-clause-moved c =
    subst (λ (s : Shape). IsMoved c.args.blocks.now.ids.items c.args.blocks.now.free s c.take_far.new.blocks.ids.items
    c.take_far.new.blocks.free (shape c.take_far.new.self)) (sym (far_is c.args.self.now c.if-self-gt3.true))
    c.take_far.ensures.moved
