use Rattle.std.proofs.Common.{vec_len}
use Rattle.task_pool.proofs.Filling.{IsPlacing}
use Rattle.task_pool.proofs.placing.placed.Given as goal

abbrev pub invariant-loop-answer : goal.invariant-loop-answer
invariant-loop-answer g l = IsPlacing l.tasks l.fn.done.items l.done.items l.all.items

abbrev pub decreases-loop-answer : goal.decreases-loop-answer
decreases-loop-answer g l = vec_len l.done
