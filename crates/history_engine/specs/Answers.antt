-- What an engine answers.
use Rattle.std.specs.Prelude.{◌≡◌, ◌+◌, true, length}
use Rattle.apsp_model.specs.Counts.{Counts as Numbers, PathsAre, HistoricalAre}
use Rattle.history_engine.specs.declared.engine.Counts.{Counts}
use Rattle.history_engine.specs.declared.engine.Change.{Change}
use Rattle.history_engine.specs.Seen.{EngineSeen, moment_seen}

-- the numbers of an update: which it is, how many steps it made, how many paths these formed and removed
pub record IsChange (before after : EngineSeen) (c : Change) : Type 0 where
  pub number : c.number ≡ length after.vertices
  pub steps : c.steps + before.steps ≡ after.steps
  pub formed : c.formed ≡ after.formed
  pub removed : c.removed ≡ after.removed

-- the numbers of a mend: no update, one step, all kept paths with an edge are formed, and none is removed
pub record IsMendChange (after : EngineSeen) (c : Change) : Type 0 where
  pub number : c.number ≡ length after.vertices
  pub steps : c.steps ≡ 1
  pub formed : PathsAre (moment_seen after) c.formed
  pub removed : c.removed ≡ 0

-- an update or a mend that memory ran out in leaves the engine spent, and all as it was but for the book
abbrev pub IsSpentBy : EngineSeen → EngineSeen → Type 0
IsSpentBy before after = after ≡ record before { spent = true; book = after.book }

abbrev pub numbers : Counts → Numbers
numbers c = record {
  updates = c.updates;
  steps = c.steps;
  paths = c.paths;
  historical = c.historical;
  formed = c.formed;
  removed = c.removed;
}

-- the counts of what is seen
pub record AreCounts (e : EngineSeen) (c : Counts) : Type 0 where
  pub updates : c.updates ≡ length e.vertices
  pub steps : c.steps ≡ e.steps
  pub paths : PathsAre (moment_seen e) c.paths
  pub historical : HistoricalAre (moment_seen e) c.historical
  pub formed : c.formed ≡ e.formed
  pub removed : c.removed ≡ e.removed
