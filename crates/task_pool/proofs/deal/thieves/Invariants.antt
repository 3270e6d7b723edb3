use Rattle.std.proofs.Common.{◌≡◌, ℕ, ◌<◌, All, vec_len, slice_index_or}
use Rattle.crossbeam_deque.specs.Handles.{stealer_flavor}
use Rattle.task_pool.specs.Shares.{ALL_PARTS}
use Rattle.task_pool.specs.States.{IsState, Thief}
use Rattle.task_pool.specs.declared.work.WorkerState.{WorkerState}
use Rattle.task_pool.proofs.deal.thieves.Given as goal

abbrev pub invariant-loop-at : goal.invariant-loop-at
invariant-loop-at g l = record {
  len : vec_len l.all ≡ l.at;
  each : (j : ℕ) (t : Thief) (d : WorkerState _) → j < vec_len l.all
      → IsState ALL_PARTS (slice_index_or l.all.items j t) (slice_index_or l.states j d);
  fifo : All (λ t. stealer_flavor t ≡ 0) l.all.items;
}
