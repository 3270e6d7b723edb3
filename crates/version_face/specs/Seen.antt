-- What contracts see of a version: its number and its graph, which determine all else.
use Rattle.std.specs.Prelude.{◌≡◌, ℕ, ◌<◌, List, Option, length, slice_index, refl}
use Rattle.std.specs.Coded.{Coded, code_by, coded×, coded_ℕ}
use Rattle.apsp_model.specs.Graph.{Graph, graph_code}
use Rattle.apsp_model.specs.Least.{LeastIs}
use Rattle.version_face.specs.Entries.{dist_in, hops_in, next_in}

pub record VersionSeen : Type 0 where
  pub number : ℕ
  pub graph : Graph

abbrev pub version_seen_code : Coded VersionSeen
version_seen_code =
    code_by (ℕ × Graph) (coded× coded_ℕ graph_code)
    (λ v. (v.number, v.graph)) (λ p. record { number = p.0; graph = p.1 }) (λ _. refl)

-- the distance, the hops and the next vertex of a pair are those of its least walk, or say that there is none
abbrev pub DistIs : Graph → ℕ → ℕ → ℕ → Type 0
DistIs g x y d = (walk : Option (List ℕ)) × LeastIs g x y walk × (d ≡ dist_in g walk)

abbrev pub HopsIs : Graph → ℕ → ℕ → ℕ → Type 0
HopsIs g x y h = (walk : Option (List ℕ)) × LeastIs g x y walk × (h ≡ hops_in walk)

abbrev pub NextIs : Graph → ℕ → ℕ → ℕ → Type 0
NextIs g x y z = (walk : Option (List ℕ)) × LeastIs g x y walk × (z ≡ next_in walk)

-- a row of x has for each vertex y what the least walk from x to y says
pub record IsDistRow (g : Graph) (x : ℕ) (row : List ℕ) : Type 0 where
  pub size : length row ≡ g.vertices
  pub cells : (y : ℕ) → y < g.vertices → DistIs g x y (slice_index row y)

pub record IsHopsRow (g : Graph) (x : ℕ) (row : List ℕ) : Type 0 where
  pub size : length row ≡ g.vertices
  pub cells : (y : ℕ) → y < g.vertices → HopsIs g x y (slice_index row y)

pub record IsNextRow (g : Graph) (x : ℕ) (row : List ℕ) : Type 0 where
  pub size : length row ≡ g.vertices
  pub cells : (y : ℕ) → y < g.vertices → NextIs g x y (slice_index row y)
