use Rattle.std.proofs.Common.{◌≡◌, ◌∙◌, sym, subst}
use Rattle.network_replies.specs.Blocks.{Block, last_graph}
use Rattle.network_replies.proofs.Plans.{after_vertices, found_vertices, apply_last}
use Rattle.network_replies.proofs.block.OpenBlock.apply.Goals as goal

pub add-requires-clause-same : goal.add-requires-clause-same
add-requires-clause-same c =
    let F : Block → Type 0 = λ b. c.args.star.vertices ≡ (last_graph b.plan).vertices in
    subst F (sym c.self.view_is) c.requires.same ∙ after_vertices c.self.inside.plan.start c.self.inside.plan.stars

pub apply-requires : goal.apply-requires
apply-requires c =
    let F : Block → Type 0 = λ b. c.args.star.vertices ≡ (last_graph b.plan).vertices in
    found_vertices c.self.inside.plan c.add.new.self c.args.star c.star.result.now c.hi.result c.self.inside.last
    c.self.invariant c.in-Ok.ensures.added c.hi.ensures.hi c.star.ensures.star
    (subst F (sym c.self.view_is) c.requires.same)

pub invariant_of-self : goal.invariant_of-self
invariant_of-self c =
    apply_last c.self.inside.plan c.add.new.self c.args.star c.star.result.now c.hi.result c.self.inside.last _
    c.self.invariant c.in-Ok.ensures.added c.hi.ensures.hi c.star.ensures.star c.apply.ensures.after
