use Rattle.std.proofs.Common.{◌≡◌, ℕ, ◌+◌, ◌<◌, ◌≤◌, length, vec_len, slice_index_or}
use Rattle.crossbeam_deque.specs.Handles.{worker_view}
use Rattle.task_pool.specs.States.{IsState, OwnerAlone, AreFitting, took_in, Thief}
use Rattle.task_pool.specs.declared.work.WorkerState.{WorkerState}
use Rattle.task_pool.proofs.deal.row.Given as goal

abbrev pub invariant-loop-at : goal.invariant-loop-at
invariant-loop-at g l = record {
  len : vec_len l.states ≡ length l.thieves;
  long : vec_len l.all ≡ l.at;
  fit : AreFitting l.thieves l.all.items;
  none_taken : (x : ℕ) → took_in x l.all.items ≡ 0;
  low : (j : ℕ) (t : Thief) (d : WorkerState _) → j < l.at
      → IsState l.parts (slice_index_or l.thieves j t) (slice_index_or l.states.items j d);
  high : (j : ℕ) (t : Thief) (d : WorkerState _) → l.at ≤ j → j < vec_len l.states
      → IsState (l.parts + 1) (slice_index_or l.thieves j t) (slice_index_or l.states.items j d);
  same : (j : ℕ) (d : WorkerState _) → j < vec_len l.states
      → OwnerAlone (slice_index_or l.initial.states.items j d) (slice_index_or l.states.items j d);
  took : (j : ℕ) (d : WorkerState _) → j < vec_len l.states
      → (worker_view (slice_index_or l.states.items j d).owner).took ≡
      (worker_view (slice_index_or l.initial.states.items j d).owner).took;
}
