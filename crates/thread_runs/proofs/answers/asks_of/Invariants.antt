use Rattle.std.proofs.Common.{◌<◌, ◌≤◌, All}
use Rattle.block_run.specs.declared.asks.Ask.{Ask as Question}
use Rattle.thread_runs.proofs.answers.asks_of.Given as goal

abbrev pub invariant-wanted : goal.invariant-wanted
invariant-wanted l = All (λ (a : Question). (a.x < 3) × (a.y < 3) × (a.since ≤ 2)) l.asks
