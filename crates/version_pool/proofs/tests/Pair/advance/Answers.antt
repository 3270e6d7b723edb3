use Rattle.std.proofs.Common.{◌<◌, sym, ◌∙◌, arith}
use Rattle.graph_store.specs.Plan.{hi_of}
use Rattle.version_pool.proofs.Versions.{vertices_of, star_fits, next_version}
use Rattle.version_pool.proofs.tests.Pair.advance.Goals as goal

pub overflow_add-self : goal.overflow_add-self
overflow_add-self c = omega (arith, c.hi.ensures.is_plan.few, c.requires.to_hi)

pub apply-requires : goal.apply-requires
apply-requires c =
    star_fits c.args.plan.now _ _ c.star.ensures.is_plan c.star.ensures.star
    ∙ sym (vertices_of c.args.plan.now _ _ c.requires)

pub returns : goal.returns
returns c =
    let more : c.args.self.now.number < hi_of c.args.plan.now =
    omega (arith, c.requires.to_hi, c.hi.ensures.hi, c.if-self-hi.false) in
    rw c.apply.ensures.after (next_version c.args.plan.now _ _ _ c.requires more c.star.ensures.star)
