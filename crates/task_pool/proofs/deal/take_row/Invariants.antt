use Rattle.std.proofs.Common.{◌≡◌, ℕ, ◌+◌, ◌<◌, ◌≤◌, length, vec_len, slice_index_or}
use Rattle.apsp_model.specs.Totals.{total}
use Rattle.task_pool.specs.States.{IsState, OwnerAlone, AreFitting, took_in, took_at, Thief}
use Rattle.task_pool.specs.declared.work.WorkerState.{WorkerState}
use Rattle.task_pool.proofs.deal.take_row.Given as goal

abbrev pub invariant-loop-pass : goal.invariant-loop-pass
invariant-loop-pass g l = record {
  len : vec_len l.states ≡ length l.thieves;
  fit : AreFitting l.thieves l.passes.items;
  low : (j : ℕ) (t : Thief) (d : WorkerState _) → j < vec_len l.passes
      → IsState l.parts (slice_index_or l.thieves j t) (slice_index_or l.states.items j d);
  high : (j : ℕ) (t : Thief) (d : WorkerState _) → vec_len l.passes ≤ j → j < vec_len l.states
      → IsState (l.parts + 1) (slice_index_or l.thieves j t) (slice_index_or l.states.items j d);
  same : (j : ℕ) (d : WorkerState _) → j < vec_len l.states
      → OwnerAlone (slice_index_or l.initial.states.items j d) (slice_index_or l.states.items j d);
  took : (x : ℕ) → total (took_at x) l.states.items + took_in x l.passes.items ≡ total (took_at x)
      l.initial.states.items + took_in x l.initial.passes.items;
}

abbrev pub decreases-loop-pass : goal.decreases-loop-pass
decreases-loop-pass g l = vec_len l.passes
