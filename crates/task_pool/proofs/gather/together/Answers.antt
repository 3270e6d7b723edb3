use Rattle.std.proofs.Common.{IfOk, Result, Ok, Err}
use Rattle.task_pool.proofs.Filling.{answers_right}
use Rattle.task_pool.proofs.gather.together.Goals as goal

if_ok : {A E : Type 0} (P Q : A → Type 0) (r : Result A E) → IfOk r P → ((a : A) → P a → Q a) → IfOk r Q
if_ok P Q (Ok a) h f = f a h
if_ok P Q (Err e) h f = tt

pub returns-clause-each : goal.returns-clause-each
returns-clause-each g c =
    let gives = g.J.Job.gives c.args.job.now in
    if_ok _ _ c.unwrapped.result c.unwrapped.ensures
    (λ v is. answers_right gives c.args.tasks c.in_ok-done.done.items c.in_ok-places.places.items v.items
    c.in_ok-done.ensures.right c.in_ok-places.ensures is)
