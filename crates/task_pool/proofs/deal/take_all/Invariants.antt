use Rattle.std.proofs.Common.{◌≡◌, ℕ, ◌+◌, ◌<◌, ◌≤◌, vec_len, slice_index_or}
use Rattle.apsp_model.specs.Totals.{total}
use Rattle.task_pool.specs.States.{IsRow, AreStates, took_in, took_all, pushed_at}
use Rattle.task_pool.specs.declared.work.WorkerState.{WorkerState}
use Rattle.task_pool.proofs.deal.take_all.Given as goal

abbrev pub invariant-loop-who : goal.invariant-loop-who
invariant-loop-who g l = record {
  states : AreStates (l.base + l.who) l.thieves l.states.items;
  rows : (j : ℕ) (d : WorkerState _) → l.who ≤ j → j < vec_len l.states
      → IsRow l.thieves (slice_index_or l.states.items j d).passes.items;
  none_left : (j : ℕ) (d : WorkerState _) → j < l.who → (x : ℕ)
      → took_in x (slice_index_or l.states.items j d).passes.items ≡ 0;
  done : (j : ℕ) (d : WorkerState _) → j < vec_len l.states
      → (slice_index_or l.states.items j d).done ≡ (slice_index_or l.initial.states.items j d).done;
  took : (x : ℕ) → total (took_all x) l.states.items ≡ total (took_all x) l.initial.states.items;
  pushed : (x : ℕ) → total (pushed_at x) l.states.items ≡ total (pushed_at x) l.initial.states.items;
}
