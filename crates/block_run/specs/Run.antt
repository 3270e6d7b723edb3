-- What a block does to the engine.
use Rattle.std.specs.Prelude.{◌≡◌, ◌⊎◌, ℕ, ◌≤◌, List, [], ◌∷◌, length, take, All, Result, IfOk, OnOk, OnErr, false}
use Rattle.apsp_model.specs.Star.{Star}
use Rattle.apsp_model.specs.Command.{Command, Star_update}
use Rattle.graph_store.specs.Plan.{Plan}
use Rattle.history_engine.specs.Seen.{EngineSeen}
use Rattle.history_engine.specs.Advance.{Advance, StandsInOutline}
use Rattle.history_engine.specs.Answers.{IsSpentBy}
use Rattle.block_run.specs.declared.asks.Ask.{Ask}
use Rattle.block_run.specs.declared.answers.Answer.{Answer}
use Rattle.block_run.specs.Answers.{IsAskOf, BlockReply}

-- the engine took the updates of these stars, one after another
abbrev pub AdvancesBy : EngineSeen → List Star → EngineSeen → Type 0
AdvancesBy before [] after = after ≡ before
AdvancesBy before (star ∷ stars) after =
    (between : EngineSeen) × Advance before (Star_update star) between × AdvancesBy between stars after

-- the engine took the first ones of these updates, and may be spent since
pub record IsCutOff (before : EngineSeen) (stars : List Star) (after : EngineSeen) : Type 0 where
  pub count : ℕ
  pub inside : count ≤ length stars
  pub reached : EngineSeen
  pub taken : AdvancesBy before (take count stars) reached
  pub end : (after ≡ reached) ⊎ IsSpentBy reached after

-- the commands with the updates of these stars behind them
abbrev pub with_updates : List Star → List Command → List Command
with_updates [] commands = commands
with_updates (star ∷ stars) commands = with_updates stars (Star_update star ∷ commands)

-- the engine stands in outline for the commands with the first ones of these updates behind them
pub record StandsForFront (e : EngineSeen) (stars : List Star) (commands : List Command) : Type 0 where
  pub count : ℕ
  pub inside : count ≤ length stars
  pub stands : StandsInOutline e (with_updates (take count stars) commands)

-- the engine is where the plan begins
pub record IsStartOf (plan : Plan) (e : EngineSeen) : Type 0 where
  pub graph : e.graph ≡ plan.start
  pub number : length e.vertices ≡ plan.lo

-- the engine may run a block with this plan and these questions
pub record CanRun (e : EngineSeen) (plan : Plan) (asks : List Ask) : Type 0 where
  pub not_spent : e.spent ≡ false
  pub start : IsStartOf plan e
  pub asks_of : All (IsAskOf plan) asks

-- a block was run with so many readers, or memory ran out meanwhile
pub record HasRun {E : Type 0} (readers : ℕ) (before : EngineSeen) (plan : Plan) (asks : List Ask)
    (result : Result (List Answer) E) (after : EngineSeen) : Type 0 where
  pub answers : IfOk result (BlockReply plan asks readers)
  pub taken : OnOk result (AdvancesBy before plan.stars after)
  pub memory : OnErr result (IsCutOff before plan.stars after)
  pub opening : after.opening ≡ before.opening
  pub vertices : after.graph.vertices ≡ before.graph.vertices
