-- The states of the workers: their deques, the passes that they have, and what they did. No public clause cites this
-- module.
use Rattle.std.specs.Prelude.{◌≡◌, ℕ, ◌+◌, ◌<◌, ◌≤◌, List, [], ◌∷◌, length, slice_index_or, All, Option, Some, None}
use Rattle.std.specs.declared.alloc.Global.{Global}
use Rattle.crossbeam_deque.specs.Handles.{Pass, view, IsPassOf, worker_deque, worker_flavor, worker_view, stealer_deque}
use Rattle.crossbeam_deque.specs.declared.handles.Stealer.{Stealer}
use Rattle.task_pool.specs.declared.deque.Account.{Account}
use Rattle.task_pool.specs.declared.deque.Shared.{Shared}
use Rattle.task_pool.specs.declared.work.Done.{Done}
use Rattle.task_pool.specs.declared.work.WorkerState.{WorkerState}
use Rattle.apsp_model.specs.Totals.{total}
use Rattle.task_pool.specs.Lists.{times, is_at}
use Rattle.task_pool.specs.Shares.{ALL_PARTS}

abbrev pub Thief : Type 0
Thief = Stealer ℕ Global Account Shared

abbrev pub Passed : Type 0
Passed = Pass ℕ Account Global

-- a pass of this thief's deque with one part, which has pushed nothing
abbrev pub IsEmptyPassOf : Thief → Passed → Type 0
IsEmptyPassOf t p = IsPassOf (stealer_deque t) p × ((view p).parts ≡ 1) × ((view p).pushed ≡ [])

-- each pass is of the deque at its place
pub record AreFitting (thieves : List Thief) (passes : List Passed) : Type 0 where
  pub few : length passes ≤ length thieves
  pub each : (j : ℕ) (t : Thief) (p : Passed) → j < length passes
      → IsEmptyPassOf (slice_index_or thieves j t) (slice_index_or passes j p)

-- a pass of each deque
abbrev pub IsRow : List Thief → List Passed → Type 0
IsRow thieves passes = (length passes ≡ length thieves) × AreFitting thieves passes

-- how often x was taken by these passes
abbrev pub took_in : ℕ → List Passed → ℕ
took_in x passes = total (λ (p : Passed). times x (view p).took) passes

abbrev pub times_some : ℕ → Option ℕ → ℕ
times_some x None = 0
times_some x (Some y) = is_at x y

module _ {T : Type 0} where
  abbrev pub tasks_of : List (Done T) → List ℕ
  tasks_of [] = []
  tasks_of (d ∷ ds) = d.task ∷ tasks_of ds

  -- an answer of the job to its own task, which is one of the tasks
  abbrev pub IsRight : (ℕ → T → Type 0) → ℕ → Done T → Type 0
  IsRight gives tasks d = (d.task < tasks) × gives d.task d.out

  abbrev pub pushed_at : ℕ → WorkerState T → ℕ
  pushed_at x d = times x (worker_view d.owner).pushed

  abbrev pub took_at : ℕ → WorkerState T → ℕ
  took_at x d = times x (worker_view d.owner).took

  abbrev pub took_all : ℕ → WorkerState T → ℕ
  took_all x d = took_at x d + took_in x d.passes.items

  abbrev pub did_at : ℕ → WorkerState T → ℕ
  did_at x d = times x (tasks_of d.done.items)

  -- the state's deque is this thief's, and its owner has so many parts
  pub record IsState (parts : ℕ) (t : Thief) (d : WorkerState T) : Type 0 where
    pub deque : worker_deque d.owner ≡ stealer_deque t
    pub flavor : worker_flavor d.owner ≡ 0
    pub parts_are : (worker_view d.owner).parts ≡ parts

  pub record AreStates (parts : ℕ) (thieves : List Thief) (states : List (WorkerState T)) : Type 0 where
    pub len : length states ≡ length thieves
    pub each : (j : ℕ) (t : Thief) (d : WorkerState T) → j < length states
        → IsState parts (slice_index_or thieves j t) (slice_index_or states j d)

  -- the owner of a deque of which nobody else has a pass
  abbrev pub OwnsAll : WorkerState T → Type 0
  OwnsAll d = (worker_flavor d.owner ≡ 0) × ((worker_view d.owner).parts ≡ ALL_PARTS)

  -- a worker leaves these
  pub record SameOwner (old new : WorkerState T) : Type 0 where
    pub deque : worker_deque new.owner ≡ worker_deque old.owner
    pub flavor : worker_flavor new.owner ≡ worker_flavor old.owner
    pub parts : (worker_view new.owner).parts ≡ (worker_view old.owner).parts
    pub pushed : (worker_view new.owner).pushed ≡ (worker_view old.owner).pushed

  -- nothing was taken and done yet
  abbrev pub IsFresh : WorkerState T → Type 0
  IsFresh d = ((x : ℕ) → took_all x d ≡ 0) × (d.done.items ≡ [])

  -- each of the tasks was answered as often as it was taken
  pub record HasWorked (gives : ℕ → T → Type 0) (tasks : ℕ) (d : WorkerState T) : Type 0 where
    pub covers : (x : ℕ) → x < tasks → took_all x d ≡ did_at x d
    pub right : All (IsRight gives tasks) d.done.items

  -- what a step with all owners leaves
  pub record OwnerAlone (old new : WorkerState T) : Type 0 where
    pub passes : new.passes ≡ old.passes
    pub done : new.done ≡ old.done
    pub pushed : (worker_view new.owner).pushed ≡ (worker_view old.owner).pushed

  -- all passes are back
  pub record AreBack (gives : ℕ → T → Type 0) (tasks : ℕ) (states : List (WorkerState T)) : Type 0 where
    pub own : All OwnsAll states
    pub right : All (λ (d : WorkerState T). All (IsRight gives tasks) d.done.items) states
    pub sums : (x : ℕ) → x < tasks → total (did_at x) states + total (pushed_at x) states ≡ 1 + total (took_at x) states
