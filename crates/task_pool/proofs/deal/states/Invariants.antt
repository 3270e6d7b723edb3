use Rattle.std.proofs.Common.{◌≡◌, ℕ, ◌*◌, ◌/◌, All, vec_len}
use Rattle.apsp_model.specs.Totals.{total}
use Rattle.task_pool.specs.Lists.{once_below}
use Rattle.task_pool.specs.States.{pushed_at, IsFresh, OwnsAll}
use Rattle.task_pool.proofs.deal.states.Given as goal

abbrev pub invariant-loop-who : goal.invariant-loop-who
invariant-loop-who g l = record {
  len : vec_len l.all ≡ l.who;
  own : All OwnsAll l.all.items;
  fresh : All IsFresh l.all.items;
  from : l.from ≡ l.who * l.tasks / l.workers;
  pushed : (x : ℕ) → total (pushed_at x) l.all.items ≡ once_below x l.from;
}
