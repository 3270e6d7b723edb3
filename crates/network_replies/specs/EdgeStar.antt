-- The star that `edge` and `cut` make.
use Rattle.std.specs.Prelude.{ℕ, Option}
use Rattle.apsp_model.specs.Graph.{Graph}
use Rattle.apsp_model.specs.Star.{Star, star_at}
use Rattle.graph_store.specs.Edges.{with_maybe_edge}

-- the star that u has, with the edge to v of this weight or without it
abbrev pub star_with : Graph → ℕ → ℕ → Option ℕ → Star
star_with g u v w = with_maybe_edge (star_at g u) (u, v) w
