use Rattle.std.proofs.Common.{◌≡◌, ℕ, ◌-◌, ◌<◌, All, slice_index_or}
use Rattle.apsp_model.specs.Totals.{total}
use Rattle.task_pool.specs.Shares.{ALL_PARTS}
use Rattle.task_pool.specs.States.{IsRow, AreStates, IsFresh, pushed_at}
use Rattle.task_pool.specs.declared.work.WorkerState.{WorkerState}
use Rattle.task_pool.proofs.deal.lend.Given as goal

abbrev pub invariant-loop-who : goal.invariant-loop-who
invariant-loop-who g l = record {
  states : AreStates (ALL_PARTS - l.who) l.thieves l.states.items;
  rows : (j : ℕ) (d : WorkerState _) → j < l.who → IsRow l.thieves (slice_index_or l.states.items j d).passes.items;
  fresh : All IsFresh l.states.items;
  pushed : (x : ℕ) → total (pushed_at x) l.states.items ≡ total (pushed_at x) l.initial.states.items;
}
