-- Plans: a graph with its number, and the stars of the updates behind it, in order.
use Rattle.std.specs.Prelude.{◌≡◌, ℕ, ◌+◌, ◌-◌, ◌^◌, ◌≤◌, List, [], ◌∷◌, ◌++◌, All, length, take, refl}
use Rattle.std.specs.Coded.{Coded, code_by, coded×, coded_ℕ, coded_list}
use Rattle.apsp_model.specs.declared.TheConstants.{MOST_UPDATES}
use Rattle.apsp_model.specs.Graph.{Graph, IsGraph, graph_code}
use Rattle.apsp_model.specs.Star.{Star, IsStar, star_of, star_code}

-- a graph, its number, and the stars of the updates behind it
pub record Plan : Type 0 where
  pub start : Graph
  pub lo : ℕ
  pub stars : List Star

abbrev pub plan_code : Coded Plan
plan_code =
    code_by (Graph × (ℕ × List Star)) (coded× graph_code (coded× coded_ℕ (coded_list star_code)))
    (λ p. (p.start, (p.lo, p.stars))) (λ t. record { start = t.0; lo = t.1.0; stars = t.1.1 }) (λ _. refl)

-- the graph after the stars, one after another
abbrev pub graph_after : Graph → List Star → Graph
graph_after g [] = g
graph_after g (s ∷ stars) = graph_after (star_of g s) stars

-- the number after all updates
abbrev pub hi_of : Plan → ℕ
hi_of p = p.lo + length p.stars

-- the graph of the number k, from lo to hi
abbrev pub plan_graph : Plan → ℕ → Graph
plan_graph p k = graph_after p.start (take (k - p.lo) p.stars)

-- the plan with one update more
abbrev pub with_star : Plan → Star → Plan
with_star p s = record p { stars = p.stars ++ s ∷ [] }

-- a number and a graph are those of one of the plan's versions
pub record IsVersionOf (p : Plan) (number : ℕ) (g : Graph) : Type 0 where
  pub from_lo : p.lo ≤ number
  pub to_hi : number ≤ hi_of p
  pub graph : g ≡ plan_graph p number

-- what holds of every plan: its stars are stars of its graph, and its numbers are those that an
-- engine can reach
pub record IsPlan (p : Plan) : Type 0 where
  pub graph : IsGraph p.start
  pub stars : All IsStar p.stars
  pub vertices : All (λ s. s.vertices ≡ p.start.vertices) p.stars
  pub few : hi_of p ≤ MOST_UPDATES
