use Rattle.std.specs.Prelude.{◌≡◌, ◌↔◌, true, Result, Err}
use Rattle.std.proofs.Common.{sym, subst}
use Rattle.history_engine.specs.Seen.{EngineSeen}
use Rattle.history_engine.specs.Answers.{IsSpentBy}
use Rattle.history_engine.specs.declared.engine.EngineError.{EngineError}
use Rattle.history_engine.specs.declared.engine.EngineError.TheVariants as error
use Rattle.network_replies.proofs.executor.Executor.update.Goals as goal

-- each answer but `Ok` leaves the engine spent
spent_by : {A : Type 0} (x : EngineError) (r : Result A EngineError) (e c : EngineSeen) → r ≡ Err x
    → ((r ≡ Err error.Spent) ↔ (e.spent ≡ true)) → (r ≡ Err error.Spent → c ≡ e)
    → (r ≡ Err error.Memory → IsSpentBy e c) → IsSpentBy e c
spent_by error.Spent r e c is spent same memory =
    subst (λ x. IsSpentBy e x) (sym (same is)) (λ i. record e { spent = spent.0 is i })
spent_by error.Memory r e c is spent same memory = memory is

pub returns-in-Err-clause-spent : goal.returns-in-Err-clause-spent
returns-in-Err-clause-spent g c =
    spent_by c.in-Err.field-0 c.star.result c.args.engine.now c.star.new.self c.in-Err.is c.star.ensures.spent
    c.star.ensures.unchanged c.star.ensures.memory
