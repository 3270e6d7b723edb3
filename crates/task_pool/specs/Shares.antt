-- The protocol of a deque of task numbers, and what each step tells. No public clause cites this module.
use Rattle.std.specs.Prelude.{◌≡◌, ℕ, ◌+◌, ◌-◌, ◌≤◌, List, [], ◌++◌, length}
use mathlib.Core.Option.{some}
use lib.ListN.{get_elem?}
use Rattle.task_pool.specs.declared.deque.Account.{Account}
use Rattle.apsp_model.specs.Totals.{total}
use Rattle.task_pool.specs.Lists.{times}

abbrev pub account : ℕ → List ℕ → List ℕ → Account
account parts pushed took = record { parts = parts; pushed = pushed; took = took }

-- any number above the greatest number of workers
abbrev pub ALL_PARTS : ℕ
ALL_PARTS = 1024

-- the numbers that the deque holds and those that its passes have taken are together the numbers that were pushed, each
-- as often
pub record Shares (items : List ℕ) (views : List Account) : Type 0 where
  pub taken : (x : ℕ) → total (λ (v : Account). times x v.took) views + times x items
      ≡ total (λ (v : Account). times x v.pushed) views
  pub lengths : total (λ (v : Account). length v.took) views + length items
      ≡ total (λ (v : Account). length v.pushed) views
  pub parts : total (λ (v : Account). v.parts) views ≡ ALL_PARTS
  pub idle : (i : ℕ) (v : Account) → get_elem? views i ≡ some v → v.parts ≡ 0 → (v.pushed ≡ []) × (v.took ≡ [])

abbrev pub Pushed : Account → List ℕ → Account → Type 0
Pushed v xs w = w ≡ account v.parts (v.pushed ++ xs) v.took

-- who has all parts has taken no more than was pushed
abbrev pub Took : Account → List ℕ → Account → Type 0
Took v xs w = (w ≡ account v.parts v.pushed (v.took ++ xs)) × (v.parts ≡ ALL_PARTS → length w.took ≤ length w.pushed)

-- at a moment when the deque is empty, who has all parts has taken all that was pushed
abbrev pub Emptied : Account → Type 0
Emptied v = v.parts ≡ ALL_PARTS → (x : ℕ) → times x v.took ≡ times x v.pushed

abbrev pub without_part : Account → Account
without_part v = account (v.parts - 1) v.pushed v.took

abbrev pub one_part : Account → Account
one_part v = account 1 [] []

abbrev pub both_of : Account → Account → Account
both_of v w = account (v.parts + w.parts) (v.pushed ++ w.pushed) (v.took ++ w.took)
