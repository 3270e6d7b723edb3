-- The generated input: numbers that are drawn one behind the other, and the updates that they make.
use Rattle.std.specs.Prelude.{ℕ, zero, suc, ◌+◌, ◌-◌, ◌*◌, ◌/◌, ◌%◌, ◌==◌, nat_lt, if◌then◌else◌, List, [], ◌∷◌, Option, Some, None}
use Rattle.apsp_model.specs.Star.{Star}
use Rattle.apsp_model.specs.Command.{Command, Star_update}
use Rattle.graph_store.specs.Table.{map_of}
use Rattle.load_run.specs.declared.draws.TheConstants.{MODULUS, MOST_DRAWN}

-- the number that is drawn behind a number
abbrev pub draw : ℕ → ℕ
draw s = (75 * s + 74) % MODULUS

-- the k-th number that is drawn behind s
abbrev pub drawn : ℕ → ℕ → ℕ
drawn s zero = s
drawn s (suc k) = draw (drawn s k)

-- an even number draws an edge of this weight, and an odd one none
abbrev pub drawn_weight : ℕ → Option ℕ
drawn_weight d = if d % 2 == 0 then Some (1 + d / 2 % MOST_DRAWN) else None

-- how many vertices other than v are below u
abbrev pub others_below : ℕ → ℕ → ℕ
others_below v u = if nat_lt v u then u - 1 else u

-- a star draws its vertex, and an edge to and from each other vertex
abbrev pub draws_of_star : ℕ → ℕ
draws_of_star n = 1 + ((n - 1) + (n - 1))

-- the edges of the star of v that is drawn behind s: first those to the other vertices, then those from them
abbrev pub drawn_edge : ℕ → ℕ → ℕ → ℕ → ℕ → Option ℕ
drawn_edge n s v a b =
    if a == v then (if b == v then None else drawn_weight (drawn s (2 + others_below v b)))
    else (if b == v then drawn_weight (drawn s (2 + (n - 1) + others_below v a)) else None)

-- the star that is drawn behind s
abbrev pub drawn_star : ℕ → ℕ → Star
drawn_star n s = record { vertices = n; vertex = drawn s 1 % n; edges = map_of n (drawn_edge n s (drawn s 1 % n)) }

-- the first k updates that a seed draws on n vertices, the latest first
abbrev pub drawn_updates : ℕ → ℕ → ℕ → List Command
drawn_updates n seed zero = []
drawn_updates n seed (suc k) =
    Star_update (drawn_star n (drawn (seed % MODULUS) (k * draws_of_star n))) ∷ drawn_updates n seed k

-- there are two for each vertex
abbrev pub load_updates : ℕ → ℕ → List Command
load_updates n seed = drawn_updates n seed (2 * n)
