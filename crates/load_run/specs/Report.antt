-- What is reported of a run over generated input.
use Rattle.std.specs.Prelude.{◌≡◌, ℕ, false}
use Rattle.std.specs.List.{sum_by}
use Rattle.std.specs.FinMap as map
use Rattle.apsp_model.specs.Command.{graph_of}
use Rattle.apsp_model.specs.Counts.{Counts, CountsAre}
use Rattle.apsp_model.specs.Stated.{Stated, Entry}
use Rattle.certificate.specs.Giving.{IsStatedOf}
use Rattle.load_run.specs.declared.LoadReport.{LoadReport}
use Rattle.load_run.specs.Draws.{load_updates}

-- the distance of an entry with its pair
abbrev pub dist_of : (ℕ × ℕ) × Entry → ℕ
dist_of e = e.1.dist

-- how many pairs of different vertices have a walk, and the sum of their distances
pub record DistancesAre (s : Stated) (pairs sum : ℕ) : Type 0 where
  pub count : pairs ≡ map.len s.entries
  pub total : sum ≡ sum_by dist_of (map.entries s.entries)

-- the counts and the distances after the updates of the seed, without smoothing
pub record IsReport (n seed : ℕ) (r : LoadReport) : Type 0 where
  pub counts : Counts
  pub are : CountsAre n false (load_updates n seed) counts
  pub updates : r.updates ≡ counts.updates
  pub paths : r.paths ≡ counts.paths
  pub historical : r.historical ≡ counts.historical
  pub stated : Stated
  pub version : IsStatedOf (record { number = r.updates; graph = graph_of n (load_updates n seed) }) stated
  pub distances : DistancesAre stated r.pairs r.sum
