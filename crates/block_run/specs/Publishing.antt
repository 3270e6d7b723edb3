-- The publisher beside the engine. No public clause cites this module.
use Rattle.std.specs.Prelude.{◌≡◌, ℕ, ◌+◌, false, length}
use Rattle.graph_store.specs.Plan.{Plan, IsVersionOf}
use Rattle.history_engine.specs.Seen.{EngineSeen}
use Rattle.version_pool.specs.Pooled.{Pool, Publisher, IsPublisherOf}
use Rattle.block_run.specs.Run.{IsStartOf}

-- the engine is where the plan begins, and that is what is announced
pub record CanPublish (pool : Pool) (publisher : Publisher) (e : EngineSeen) (plan : Plan) : Type 0 where
  pub plan_is : pool.plan ≡ plan
  pub publisher_of : IsPublisherOf pool publisher
  pub announced : publisher.mark.number ≡ plan.lo
  pub not_spent : e.spent ≡ false
  pub start : IsStartOf plan e

-- what the engine answers now is the plan's version behind this number
pub record IsNextOf (plan : Plan) (number : ℕ) (e : EngineSeen) : Type 0 where
  pub not_spent : e.spent ≡ false
  pub next : length e.vertices ≡ number + 1
  pub of_plan : IsVersionOf plan (length e.vertices) e.graph
