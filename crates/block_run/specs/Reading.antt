-- The readers, and what each of them answers. No public clause cites this module.
use Rattle.std.specs.Prelude.{◌≡◌, ℕ, ◌+◌, ◌*◌, ◌<◌, ◌≤◌, List, All, Result, IfOk, length, slice_index_or}
use Rattle.std.specs.declared.vec.Vec.{Vec}
use Rattle.std.specs.declared.alloc.Global.{Global}
use Rattle.apsp_model.specs.declared.Memory.{Memory}
use Rattle.graph_store.specs.Plan.{Plan, IsPlan}
use Rattle.version_face.specs.Seen.{VersionSeen}
use Rattle.version_pool.specs.Pooled.{Pool, IsReaderOf}
use Rattle.block_run.specs.declared.asks.Ask.{Ask}
use Rattle.block_run.specs.declared.answers.Answer.{Answer}
use Rattle.block_run.specs.declared.read.BlockReader.{BlockReader}
use Rattle.block_run.specs.Answers.{IsAskOf, IsFound, IsAnswer}

-- questions about this plan, which begins at lo
pub record AreAsksOf (plan : Plan) (lo : ℕ) (asks : List Ask) : Type 0 where
  pub is_plan : IsPlan plan
  pub lo_is : lo ≡ plan.lo
  pub each : All (IsAskOf plan) asks

-- each reader has the number of its place
abbrev pub AreNumbered : List BlockReader → Type 0
AreNumbered readers = (k : ℕ) (d : BlockReader) → k < length readers → (slice_index_or readers k d).who ≡ k

-- the same reader, which saw nothing older meanwhile
pub record ReadsOn (pool : Pool) (before after : BlockReader) : Type 0 where
  pub reader_of : IsReaderOf pool after.reader
  pub who : after.who ≡ before.who
  pub later : before.reader.mark.number ≤ after.reader.mark.number

-- what a version answers, which has at least this number
pub record IsAnswerFrom (v : VersionSeen) (ask : Ask) (least : ℕ) (a : Answer) : Type 0 where
  pub number : a.number ≡ v.number
  pub not_older : least ≤ a.number
  pub x : a.x ≡ ask.x
  pub y : a.y ≡ ask.y
  pub found : IsFound v.graph ask.x ask.y a.dist a.walk

-- an answer from the plan's version that the reader saw last, which has at least this number
pub record IsAnswerSeen (plan : Plan) (ask : Ask) (least : ℕ) (reader : BlockReader) (a : Answer) : Type 0 where
  pub number : a.number ≡ reader.reader.mark.number
  pub not_older : least ≤ a.number
  pub answer : plan.lo + ask.since ≤ a.number → IsAnswer plan ask a

-- the answers to the questions who, who + step, who + 2 * step, .., so many, in numbers that do not fall
pub record AnswersSome (plan : Plan) (asks : List Ask) (who step : ℕ) (answers : List Answer) : Type 0 where
  pub each : (k : ℕ) (d : Ask) (e : Answer) → k < length answers
      → (who + k * step < length asks)
      × IsAnswer plan (slice_index_or asks (who + k * step) d) (slice_index_or answers k e)
  pub rising : (j k : ℕ) (d : Answer) → j < k → k < length answers
      → (slice_index_or answers j d).number ≤ (slice_index_or answers k d).number

-- the answers to all of them
pub record AnswersAll (plan : Plan) (asks : List Ask) (who step : ℕ) (answers : List Answer) : Type 0 where
  pub some : AnswersSome plan asks who step answers
  pub whole : length asks ≤ who + length answers * step

-- what the readers answer, each in its place, but for those that ran out of memory
pub record AreLists (plan : Plan) (asks : List Ask) (readers : List BlockReader)
    (lists : List (Result (Vec Answer Global) Memory)) : Type 0 where
  pub len : length lists ≡ length readers
  pub each : (k : ℕ) (d : Result (Vec Answer Global) Memory) (e : BlockReader) → k < length readers
      → IfOk (slice_index_or lists k d)
      (λ a. AnswersAll plan asks (slice_index_or readers k e).who (length readers) a.items)
