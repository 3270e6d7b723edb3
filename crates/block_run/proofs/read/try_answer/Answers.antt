use Rattle.std.proofs.Common.{◌<◌, sym, subst}
use Rattle.version_face.specs.Seen.{VersionSeen}
use Rattle.block_run.proofs.Advances.{version_inside}
use Rattle.block_run.proofs.read.try_answer.Goals as goal

pub answer_from-answer-requires-clause-from : goal.answer_from-answer-requires-clause-from
answer_from-answer-requires-clause-from g c =
    subst (λ (v : VersionSeen). c.args.ask.now.x < v.graph.vertices) (sym c.version.ensures)
    (version_inside c.args.pool.now.plan c.in-Ok.held c.in-Ok.ensures.of_plan c.args.ask.now.x c.requires.ask.from)

pub answer_from-answer-requires-clause-to : goal.answer_from-answer-requires-clause-to
answer_from-answer-requires-clause-to g c =
    subst (λ (v : VersionSeen). c.args.ask.now.y < v.graph.vertices) (sym c.version.ensures)
    (version_inside c.args.pool.now.plan c.in-Ok.held c.in-Ok.ensures.of_plan c.args.ask.now.y c.requires.ask.to)
