use Rattle.std.proofs.Common.{sym, subst}
use Rattle.id_pool.specs.Heads.{Shape, shape, IsMoved}
use Rattle.id_pool.proofs.Shapes.{far_is}
use Rattle.id_pool.proofs.head.Head.clear.Goals as goal

pub returns-then-self-gt3-clause-moved : goal.returns-then-self-gt3-clause-moved
returns-then-self-gt3-clause-moved c =
    subst (λ (s : Shape). IsMoved c.args.blocks.now.ids.items c.args.blocks.now.free s c.clear_far.new.blocks.ids.items
    c.clear_far.new.blocks.free (shape c.clear_far.new.self)) (sym (far_is c.args.self.now c.if-self-gt3.true))
    c.clear_far.ensures.moved
