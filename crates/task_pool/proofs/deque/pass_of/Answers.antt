use Rattle.task_pool.proofs.Steps.{forks}
use Rattle.task_pool.proofs.deque.pass_of.Goals as goal

pub another-requires : goal.another-requires
another-requires c = forks _ _ c.requires
