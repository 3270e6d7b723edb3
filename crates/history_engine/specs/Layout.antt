-- What an engine's fields say, and what holds of them. No public clause cites this module.
use Rattle.std.specs.Prelude.{◌≡◌, ℕ, ◌+◌, ◌*◌, ◌^◌, ◌≤◌, false, length}
use Rattle.apsp_model.specs.declared.TheConstants.{MOST_UPDATES}
use Rattle.path_book.specs.Book.{kept_paths}
use Rattle.history_engine.specs.declared.engine.Engine.TheInside.{Inside}
use Rattle.history_engine.specs.Seen.{EngineSeen}
use Rattle.history_engine.specs.Lawful.{AreLawful}

abbrev pub seen_of : Inside → EngineSeen
seen_of e = record {
  opening = e.opening;
  graph = e.graph;
  smooth = e.smooth;
  vertices = e.timeline.vertices;
  steps = e.progress.steps;
  formed = e.progress.formed;
  removed = e.progress.removed;
  spent = e.spent;
  book = e.book;
}

-- the parts have one number of vertices, an update makes few steps, a mend is made only where there were fewer than
-- 2 ^ 62, and the paths are lawful, at some number of steps, until memory ran out
pub record IsEngine (e : Inside) : Type 0 where
  pub star_size : e.before.vertices ≡ e.graph.vertices
  pub book_size : e.spent ≡ false → e.book.arena.vertices ≡ e.graph.vertices
  pub timeline_size : e.timeline.size ≡ e.graph.vertices
  pub few_updates : length e.timeline.vertices ≤ MOST_UPDATES
  pub few_steps : e.progress.steps ≤ 2 ^ 62 + 42 * length e.timeline.vertices
  pub paths : e.spent ≡ false → (steps : ℕ) × AreLawful e.graph steps (kept_paths e.book)
