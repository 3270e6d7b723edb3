use Rattle.block_run.proofs.Advances.{IsPublishing}
use Rattle.block_run.proofs.publish.publish_all.Given as goal

abbrev pub invariant-loop-number : goal.invariant-loop-number
invariant-loop-number g l = IsPublishing l.pool l.plan l.initial.engine l.number l.publisher l.engine
