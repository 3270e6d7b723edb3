-- The networks of the worked examples, each by the stars that were put in, the latest first.
use Rattle.std.specs.Prelude.{ℕ, List, [], ◌∷◌}
use Rattle.std.specs.FinMap as map
use Rattle.apsp_model.specs.Star.{Star}
use Rattle.apsp_model.specs.Command.{Command, Star_update}

-- a star: its vertex, and its edges with their weights
abbrev pub Row : Type 0
Row = ℕ × List ((ℕ × ℕ) × ℕ)

abbrev pub star_from : ℕ → Row → Star
star_from n r = record { vertices = n; vertex = r.0; edges = map.from_entries r.1 }

-- the updates by these stars on n vertices
abbrev pub updates : ℕ → List Row → List Command
updates n [] = []
updates n (r ∷ rs) = Star_update (star_from n r) ∷ updates n rs

-- the edge 0 2 is least until the way 0 1 2 appears
abbrev pub two_stars : List Row
two_stars = (1, ((1, 2), 3) ∷ ((0, 1), 4) ∷ []) ∷ (0, ((0, 1), 4) ∷ ((0, 2), 9) ∷ []) ∷ []

-- .. and vertex 1 loses its edges
abbrev pub way_closed : List Row
way_closed = (1, []) ∷ (1, ((1, 2), 3) ∷ ((0, 1), 4) ∷ []) ∷ (0, ((0, 1), 4) ∷ ((0, 2), 9) ∷ []) ∷ []

-- two ways from 0 to 3 of one weight and length
abbrev pub diamond : List Row
diamond = (3, ((1, 3), 2) ∷ ((2, 3), 1) ∷ []) ∷ (0, ((0, 1), 1) ∷ ((0, 2), 2) ∷ []) ∷ []

-- .. and then an edge of their weight
abbrev pub shortcut : List Row
shortcut = (0, ((0, 1), 1) ∷ ((0, 2), 2) ∷ ((0, 3), 3) ∷ []) ∷ (3, ((1, 3), 2) ∷ ((2, 3), 1) ∷ [])
    ∷ (0, ((0, 1), 1) ∷ ((0, 2), 2) ∷ []) ∷ []

-- both halves of the path 0 1 2 become least at once
abbrev pub halves : List Row
halves = (1, ((0, 1), 2) ∷ ((1, 2), 2) ∷ []) ∷ []

-- an edge there and one back
abbrev pub there_and_back : List Row
there_and_back = (0, ((0, 1), 1) ∷ ((1, 0), 1) ∷ []) ∷ []

-- one edge, with another weight each time
abbrev pub one_edge : List Row
one_edge = (1, ((0, 1), 3) ∷ []) ∷ (0, ((0, 1), 2) ∷ []) ∷ (0, ((0, 1), 1) ∷ []) ∷ []

-- two edges of the greatest weight
abbrev pub heaviest : List Row
heaviest = (1, ((0, 1), 4294967295) ∷ ((1, 2), 4294967295) ∷ []) ∷ []

-- edges of weight 0 alone, two of them a cycle
abbrev pub weightless : List Row
weightless = (1, ((0, 1), 0) ∷ ((1, 0), 0) ∷ ((1, 2), 0) ∷ []) ∷ (0, ((0, 2), 0) ∷ []) ∷ []
