use Rattle.std.proofs.Common.{arith}
use Rattle.block_run.proofs.Advances.{star_fits, updates_few, unspent_here, cut_here, next_is, goes_on, spent_by, at_end, all_taken}
use Rattle.block_run.proofs.publish.publish_all.Goals as goal

pub star-requires-in-loop-number-clause-same : goal.star-requires-in-loop-number-clause-same
star-requires-in-loop-number-clause-same g c κs within =
    star_fits c.args.pool.now c.args.plan.now c.star.ensures.is_plan c.args.publisher.now c.args.engine.now
    c.requires.can c.loop-number.number c.loop-number.publisher c.loop-number.engine c.loop-number.invariant
    c.star.result.now c.star.ensures.star

pub star-requires-in-loop-number-clause-few : goal.star-requires-in-loop-number-clause-few
star-requires-in-loop-number-clause-few g c κs within =
    updates_few c.args.pool.now c.args.plan.now c.star.ensures.is_plan c.args.publisher.now c.args.engine.now
    c.requires.can c.loop-number.number c.loop-number.publisher c.loop-number.engine c.loop-number.invariant
    c.star.result.now c.star.ensures.star

pub returns-in-Err-clause-cut_off : goal.returns-in-Err-clause-cut_off
returns-in-Err-clause-cut_off g c =
    cut_here c.args.pool.now c.args.plan.now c.star.ensures.is_plan c.args.publisher.now c.args.engine.now
    c.requires.can c.loop-number.number c.loop-number.publisher c.loop-number.engine c.loop-number.invariant
    c.star.result.now c.star.ensures.star c.star-in-loop-number.new.self
    (spent_by c.in-Err.field-0 c.star-in-loop-number.result c.loop-number.engine c.star-in-loop-number.new.self
    c.in-Err.is
    (unspent_here c.args.pool.now c.args.plan.now c.star.ensures.is_plan c.args.publisher.now c.args.engine.now
    c.requires.can c.loop-number.number c.loop-number.publisher c.loop-number.engine c.loop-number.invariant
    c.star.result.now c.star.ensures.star)
    c.star-in-loop-number.ensures.spent c.star-in-loop-number.ensures.memory)

pub publish-requires-clause-next : goal.publish-requires-clause-next
publish-requires-clause-next g c =
    next_is c.args.pool.now c.args.plan.now c.star.ensures.is_plan c.args.publisher.now c.args.engine.now c.requires.can
    c.loop-number.number c.loop-number.publisher c.loop-number.engine c.loop-number.invariant c.star.result.now
    c.star.ensures.star c.star-in-loop-number.new.self c.in-Ok.ensures.advance

pub loop-number-preserved : goal.loop-number-preserved
loop-number-preserved g c =
    goes_on c.args.pool.now c.args.plan.now c.star.ensures.is_plan c.args.publisher.now c.args.engine.now c.requires.can
    c.loop-number.number c.loop-number.publisher c.loop-number.engine c.loop-number.invariant c.star.result.now
    c.star.ensures.star c.star-in-loop-number.new.self c.in-Ok.ensures.advance c.publish.new.publisher
    c.publish.ensures.publisher c.publish.ensures.announced

pub returns-clause-cut_off : goal.returns-clause-cut_off
returns-clause-cut_off g c =
    all_taken c.args.engine.now c.loop-number.engine c.args.plan.now.stars
    (at_end c.args.plan.now c.args.engine.now c.loop-number.engine c.loop-number.number
    (omega (arith, c.loop-number-test.false, c.hi-number-end.ensures.hi)) c.loop-number.invariant.taken)
