use Rattle.std.proofs.Common.{◌≡◌, ◌≤◌, []}
use Rattle.crossbeam_deque.specs.Handles.{worker_view, worker_flavor, worker_capacity, worker_index}
use Rattle.task_pool.specs.Lists.{from_on}
use Rattle.task_pool.specs.Shares.{account, ALL_PARTS}
use Rattle.task_pool.proofs.deque.filled.Given as goal

abbrev pub invariant-loop-i : goal.invariant-loop-i
invariant-loop-i l = record {
  flavor : worker_flavor l.owner ≡ 0;
  view : worker_view l.owner ≡ account ALL_PARTS (from_on l.from l.i) [];
  index : worker_index l.owner ≡ l.i;
  room : l.count ≤ worker_capacity l.owner;
}
