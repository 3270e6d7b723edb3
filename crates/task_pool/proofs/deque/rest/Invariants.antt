use Rattle.std.proofs.Common.{◌≡◌, ℕ, ◌+◌, ◌-◌, length}
use Rattle.crossbeam_deque.specs.Handles.{worker_view, worker_flavor}
use Rattle.task_pool.specs.Lists.{times}
use Rattle.task_pool.specs.Shares.{ALL_PARTS}
use Rattle.task_pool.proofs.deque.rest.Given as goal

abbrev pub invariant-loop-task : goal.invariant-loop-task
invariant-loop-task l = record {
  flavor : worker_flavor l.owner ≡ 0;
  parts : (worker_view l.owner).parts ≡ ALL_PARTS;
  pushed : (worker_view l.owner).pushed ≡ (worker_view l.initial.owner).pushed;
  took : (x : ℕ) → times x (worker_view l.owner).took ≡ times x (worker_view l.initial.owner).took + times x
      l.all.items;
}

abbrev pub decreases-loop-task : goal.decreases-loop-task
decreases-loop-task l = length (worker_view l.owner).pushed - length (worker_view l.owner).took
