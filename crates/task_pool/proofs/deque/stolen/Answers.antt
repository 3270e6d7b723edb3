use Rattle.std.proofs.Common.{ℕ, min, sym, subst}
use Rattle.crossbeam_deque.specs.Tasks.{FindsFew}
use Rattle.crossbeam_deque.specs.Handles.{view}
use Rattle.task_pool.specs.Shares.{Shares, Emptied}
use Rattle.task_pool.proofs.Steps.{takes, finds_few}
use Rattle.task_pool.proofs.deque.stolen.Goals as goal

pub steal_as-requires-clause-takes : goal.steal_as-requires-clause-takes
steal_as-requires-clause-takes c = takes _ _ c.requires.2

pub steal_as-requires-clause-empty : goal.steal_as-requires-clause-empty
steal_as-requires-clause-empty c =
    let P : ℕ → Type 0 =
    λ f. FindsFew Shares (min f 1) c.args.pass.now.id (view c.args.pass.now) (Emptied (view c.args.pass.now)) in
    subst P (sym c.requires.1) (finds_few c.args.pass.now.id (view c.args.pass.now))
