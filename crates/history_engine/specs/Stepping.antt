-- Star steps one behind the other: what one leaves, and what stands between two steps of an update.
-- No public clause cites this module.
use Rattle.std.specs.Prelude.{◌≡◌, ℕ, ◌+◌, Bool, List, length, Option, Contains}
use Rattle.apsp_model.specs.Graph.{Graph}
use Rattle.apsp_model.specs.Star.{Star, star_of}
use Rattle.apsp_model.specs.Command.{Step, with_cleaning}
use Rattle.apsp_model.specs.Kept.{after_star, after_mend, after_steps, IsWithEdge}
use Rattle.apsp_model.specs.Counts.{CountIs, RemovedIs, PathsAre}
use Rattle.apsp_model.specs.Paths.{KeptPath, moment_in}
use Rattle.history_engine.specs.Seen.{EngineSeen, moment_seen, paths_of, SayTheSame}
use Rattle.history_engine.specs.Lawful.{AreLawful}
use Rattle.history_engine.specs.Advance.{steps_of_star}

-- the kept paths after a star step at v that left the graph g, with how many were formed and removed
pub record IsStepDone (v : ℕ) (g : Graph) (steps : ℕ) (before after : List KeptPath) (formed removed : ℕ) : Type 0 where
  pub says : SayTheSame (moment_in (steps + 1) after) (after_star (moment_in steps before) v g)
  pub lawful : AreLawful g (steps + 1) after
  pub removed_is : CountIs (λ p. (moment_in steps before).kept p × IsWithEdge p × Contains p v) removed
  pub formed_is : (a b : ℕ) → PathsAre (moment_in steps before) b → PathsAre (moment_in (steps + 1) after) a
      → formed + b ≡ a + removed

-- the kept paths after a mend step in the graph g, with how many were formed
pub record IsMendDone (g : Graph) (steps : ℕ) (after : List KeptPath) (formed : ℕ) : Type 0 where
  pub says : SayTheSame (moment_in (steps + 1) after) (after_mend steps g)
  pub lawful : AreLawful g (steps + 1) after
  pub formed_is : PathsAre (moment_in (steps + 1) after) formed

-- between two steps of the update by the star s: the steps made so far, and the vertices that are still to be cleaned
pub record UpdateInvariant (e : EngineSeen) (s : Star) (g : Graph) (left : List ℕ) (steps formed removed : ℕ)
    (paths : List KeptPath) : Type 0 where
  pub made : List Step
  pub rest : with_cleaning left g made ≡ steps_of_star e s
  pub says : SayTheSame (moment_in steps paths) (after_steps (moment_seen e) made)
  pub steps_is : steps ≡ e.steps + length made
  pub removed_is : RemovedIs (moment_seen e) made removed
  pub formed_is : (a b : ℕ) → PathsAre (moment_seen e) b → PathsAre (moment_in steps paths) a → formed + b ≡ a + removed
  pub lawful : AreLawful g steps paths

-- the update by the star s has put its star in place, and no step was made yet
pub record StarIsInPlace (e : EngineSeen) (s : Star) (g : Graph) (cleans : Bool) (vs : List (Option ℕ)) (v k : ℕ)
    (before : List KeptPath) : Type 0 where
  pub graph : g ≡ star_of e.graph s
  pub smooth : e.smooth ≡ cleans
  pub vertices : e.vertices ≡ vs
  pub vertex : s.vertex ≡ v
  pub steps : e.steps ≡ k
  pub paths : paths_of e ≡ before
