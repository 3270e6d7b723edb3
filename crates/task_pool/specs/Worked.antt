-- The answers at their places. No public clause cites this module.
use Rattle.std.specs.Prelude.{◌≡◌, ℕ, ◌<◌, List, length, All, Contains, slice_index_or, Option, Some, None, IsSome}
use Rattle.task_pool.specs.declared.work.Done.{Done}

module _ {T : Type 0} where
  -- there is a place for each task, each with an answer that was given for its task
  pub record AnswersStandAtTheirTasks (tasks : ℕ) (done : List (Done T)) (places : List (Option T)) : Type 0 where
    pub len : length places ≡ tasks
    pub full : All IsSome places
    pub from : (k : ℕ) (x : T) → k < tasks → slice_index_or places k None ≡ Some x
        → Contains done (record { task = k; out = x })
