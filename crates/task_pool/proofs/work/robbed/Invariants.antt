use Rattle.std.proofs.Common.{◌≡◌, ℕ}
use Rattle.task_pool.specs.States.{IsRow, took_in}
use Rattle.task_pool.proofs.work.robbed.Given as goal

abbrev pub invariant-loop-step : goal.invariant-loop-step
invariant-loop-step l = record {
  row : IsRow l.thieves l.passes.items;
  took : (x : ℕ) → took_in x l.passes.items ≡ took_in x l.initial.passes.items;
}
