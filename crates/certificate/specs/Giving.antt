-- What a sink is given.
use Rattle.std.specs.Prelude.{◌≡◌, ◌≢◌, ℕ, ◌<◌, List, Option, Some, None, Result, Ok, Err}
use Rattle.std.specs.FinMap as map
use Rattle.std.specs.Io.KnownBytes.{Appends}
use Rattle.apsp_model.specs.Graph.{Graph}
use Rattle.apsp_model.specs.Walk.{weight_of, hops_of}
use Rattle.apsp_model.specs.Least.{IsLeast, HasNoWalk}
use Rattle.apsp_model.specs.Stated.{Stated, Entry}
use Rattle.apsp_io.specs.Streams.{Rose, GrowsByPrefix}
use Rattle.apsp_io.specs.declared.sink.GiveError.{GiveError}
use Rattle.apsp_io.specs.declared.sink.GiveError.TheVariants as give
use Rattle.version_face.specs.Seen.{VersionSeen}
use Rattle.version_face.specs.Entries.{second_of}

-- the stated entry of a pair is that of its least walk
abbrev pub StatedEntryIs : Graph → ℕ → ℕ → Option Entry → Type 0
StatedEntryIs g x y None = HasNoWalk g x y
StatedEntryIs g x y (Some e) =
    (p : List ℕ) × IsLeast g x y p × (e ≡ record { dist = weight_of g p; hops = hops_of p; next = second_of p })

-- what is stated is the version: its number, its graph, and the entries of its pairs of different vertices
pub record IsStatedOf (v : VersionSeen) (s : Stated) : Type 0 where
  pub number : s.number ≡ v.number
  pub graph : s.graph ≡ v.graph
  pub inside : (x y : ℕ) (e : Entry) → map.get s.entries (x, y) ≡ Some e →
      (x < v.graph.vertices) × (y < v.graph.vertices) × (x ≢ y)
  pub entries : (x y : ℕ) → x < v.graph.vertices → y < v.graph.vertices → x ≢ y →
      StatedEntryIs v.graph x y (map.get s.entries (x, y))

-- the whole text was given, or a front of it; a sink failed only where its faults rose
abbrev pub GivesText :
    Result (Unit {0}) GiveError → Option (List ℕ) → Option (List ℕ) → ℕ → ℕ → List ℕ → Type 0
GivesText (Ok _) old new before now text = Appends old new text
GivesText (Err give.Failed) old new before now text = GrowsByPrefix old new text × Rose before now
GivesText (Err give.Memory) old new before now text = GrowsByPrefix old new text
