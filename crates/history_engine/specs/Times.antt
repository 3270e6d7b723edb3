-- The times of the updates. No public clause cites this module.
use Rattle.std.specs.Prelude.{◌≡◌, ℕ, ◌+◌, ◌-◌, ◌<◌, ◌≤◌, List, length, Option, Some, slice_get, slice_index, vec_len}
use Rattle.apsp_model.specs.Command.{cleaned_from}
use Rattle.history_engine.specs.declared.timeline.Timeline.TheInside.{Inside}

-- t is the time of the latest star at v, and 0 where there was none
pub record IsLatestUpdate (vs : List (Option ℕ)) (v t : ℕ) : Type 0 where
  pub made : t ≤ length vs
  pub here : (s : ℕ) → t ≡ s + 1 → slice_get vs s ≡ Some (Some v)
  pub none_later : (s : ℕ) → t ≤ s → slice_get vs s ≡ Some (Some v) → ⊥

-- each vertex's latest time stands in the table, and each star is at one of the vertices
pub record IsTimeline (t : Inside) : Type 0 where
  pub latest : (v : ℕ) → v < vec_len t.latest → IsLatestUpdate t.vertices.items v (slice_index t.latest.items v)
  pub inside : (s v : ℕ) → slice_get t.vertices.items s ≡ Some (Some v) → v < vec_len t.latest

-- the table of so many vertices has the times of the first ones of another table by now, and 0 behind them
pub record AreTimesUpto (n i : ℕ) (times wide : List ℕ) : Type 0 where
  pub size : length wide ≡ n
  pub before : (v : ℕ) → v < i → slice_index wide v ≡ slice_index times v
  pub behind : (v : ℕ) → i ≤ v → slice_index wide v ≡ 0

-- the vertices of the cleaning steps for the powers of 2 from number i on, behind the update of time length vs
abbrev pub left_from : List (Option ℕ) → ℕ → List ℕ
left_from vs i = cleaned_from vs i (length vs - i)
