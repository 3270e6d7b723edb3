-- The edges of a star: which are refused, and what one edge more or less leaves.
use Rattle.std.specs.Prelude.{ℕ, ◌≤◌, ◌==◌, ◌||◌, nat_lt, nat_le, is_some, if◌then◌else◌, Option, Some, None, Result, Ok, Err}
use Rattle.std.specs.FinMap as map
use Rattle.apsp_model.specs.declared.TheConstants.{MOST_WEIGHT}
use Rattle.apsp_model.specs.Star.{Star}
use Rattle.graph_store.specs.declared.star.StarError.{StarError}
use Rattle.graph_store.specs.declared.star.StarError.TheVariants.{Vertex, SelfEdge, Repeat, Weight}

-- an edge may have the weight w
abbrev pub IsWeight : ℕ → Type 0
IsWeight w = w ≤ MOST_WEIGHT

-- The first test that an edge between v and u of weight w fails, where n is the number of vertices
-- and the star has the given edge between the two in that direction.
abbrev pub first_refusal : ℕ → ℕ → Option ℕ → ℕ → ℕ → Option StarError
first_refusal n v present u w =
    if nat_le n u then Some Vertex
    else (if u == v then Some SelfEdge
    else (if is_some present then Some Repeat
    else (if nat_lt MOST_WEIGHT w then Some Weight else None)))

-- why a star refuses an edge to or from u of weight w, if it does
abbrev pub refusal_of : Star → ℕ × ℕ → ℕ → ℕ → Option StarError
refusal_of s edge u w = first_refusal s.vertices s.vertex (map.get s.edges edge) u w

abbrev pub ok_unless : {A : Type 0} → A → Option StarError → Result A StarError
ok_unless x None = Ok x
ok_unless x (Some e) = Err e

abbrev pub with_edge : Star → ℕ × ℕ → ℕ → Star
with_edge s edge w = record s { edges = map.insert s.edges edge w }

-- the star with that edge where a weight is given, and without it otherwise
abbrev pub with_maybe_edge : Star → ℕ × ℕ → Option ℕ → Star
with_maybe_edge s edge (Some w) = with_edge s edge w
with_maybe_edge s edge None = record s { edges = map.remove s.edges edge }
