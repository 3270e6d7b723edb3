use Rattle.task_pool.proofs.Steps.{merges}
use Rattle.task_pool.proofs.deque.take_in.Goals as goal

pub absorb-requires-clause-rule : goal.absorb-requires-clause-rule
absorb-requires-clause-rule c = merges _ _ _ _ c.requires.1
