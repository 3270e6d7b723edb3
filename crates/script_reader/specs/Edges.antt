-- Vertices, weights and the items of a star, each word tested in the order of the codes.
use Rattle.std.specs.Prelude.{ℕ, ◌+◌, Bool, not, ◌==◌, ◌||◌, nat_lt, nat_le, is_some, if◌then◌else◌, List, [], ◌∷◌, ◌++◌, count_by, Option, Some, None, Result, Ok}
use Rattle.std.specs.List.{list_any, before_first, after_first}
use Rattle.std.specs.FinMap as map
use Rattle.apsp_model.specs.declared.TheConstants.{MOST_WEIGHT}
use Rattle.apsp_model.specs.Star.{Star}
use Rattle.graph_store.specs.Edges.{with_edge}
use Rattle.numerals.specs.Numbers.{number_of}
use Rattle.script_reader.specs.declared.TheConstants.{MOST_DIGITS}
use Rattle.script_reader.specs.declared.code.TheConstants.{NUMBER, VERTEX, SELF_EDGE, REPEAT, WEIGHT}
use Rattle.script_reader.specs.declared.Group.{Group}
use Rattle.script_reader.specs.declared.Group.TheVariants.{Out, In}
use Rattle.script_reader.specs.Words.{is_out, is_in, group_of}
use Rattle.script_reader.specs.Refused.{Refusal, refused, or_refused, ◌>>=◌}

abbrev pub number_at : ℕ → List ℕ → Result ℕ Refusal
number_at place w = or_refused (number_of MOST_DIGITS w) NUMBER place

abbrev pub vertex_below : ℕ → ℕ → ℕ → Result ℕ Refusal
vertex_below n place u = if nat_lt u n then Ok u else refused VERTEX place

-- the vertex that a word names
abbrev pub vertex_at : ℕ → ℕ → List ℕ → Result ℕ Refusal
vertex_at n place w = number_at place w >>= vertex_below n place

abbrev pub is_no_weight : ℕ → Bool
is_no_weight w = nat_lt MOST_WEIGHT w

abbrev pub weight_in_range : ℕ → ℕ → Result ℕ Refusal
weight_in_range place w = if is_no_weight w then refused WEIGHT place else Ok w

-- the weight that a word names
abbrev pub weight_at_word : ℕ → List ℕ → Result ℕ Refusal
weight_at_word place w = number_at place w >>= weight_in_range place

abbrev pub is_colon : ℕ → Bool
is_colon b = b == 58

-- whether a word of the group stands among these
abbrev pub has_group : Group → List (List ℕ) → Bool
has_group Out words = list_any is_out words
has_group In words = list_any is_in words

-- Whether a word cannot stand behind those before it, where these are behind the star's vertex: a
-- group word that stood before, or another word that no group word stands before or that does not
-- have exactly one colon.
abbrev pub is_misfit : Option Group → List (List ℕ) → List ℕ → Bool
is_misfit (Some g) before w = has_group g before
is_misfit None before w = not (has_group Out before || has_group In before) || not (count_by is_colon w == 1)

-- the place of the first word that cannot stand
abbrev pub first_misfit : List (List ℕ) → ℕ → List (List ℕ) → Option ℕ
first_misfit before place [] = None
first_misfit before place (w ∷ ws) =
    if is_misfit (group_of w) before w then Some place else first_misfit (before ++ w ∷ []) (place + 1) ws

-- the edge between the star's vertex and u
abbrev pub edge_of : Star → Group → ℕ → ℕ × ℕ
edge_of s Out u = (s.vertex, u)
edge_of s In u = (u, s.vertex)

abbrev pub star_with_edge : Star → Group → ℕ → ℕ → ℕ → Result Star Refusal
star_with_edge s g place u w =
    if nat_le s.vertices u then refused VERTEX place
    else (if u == s.vertex then refused SELF_EDGE place
    else (if is_some (map.get s.edges (edge_of s g u)) then refused REPEAT place
    else (if is_no_weight w then refused WEIGHT place
    else Ok (with_edge s (edge_of s g u) w))))

-- the star with the edge of an item: both its numbers are read before the edge is tested
abbrev pub star_with_item : Star → Group → ℕ → List ℕ → Result Star Refusal
star_with_item s g place item =
    number_at place (before_first is_colon item) >>= (λ u.
    number_at place (after_first is_colon item) >>= (λ w. star_with_edge s g place u w))

-- the star with the items of the groups, where the present group is g
abbrev pub star_with_groups : Star → Group → ℕ → List (List ℕ) → Result Star Refusal
star_with_groups s g place [] = Ok s
star_with_groups s g place (w ∷ ws) =
    if is_out w then star_with_groups s Out (place + 1) ws
    else (if is_in w then star_with_groups s In (place + 1) ws
    else (star_with_item s g place w >>= (λ t. star_with_groups t g (place + 1) ws)))

-- the vertices that the words name
abbrev pub vertices_at : ℕ → ℕ → List (List ℕ) → Result (List ℕ) Refusal
vertices_at n place [] = Ok []
vertices_at n place (w ∷ ws) = vertex_at n place w >>= (λ u. vertices_at n (place + 1) ws >>= (λ us. Ok (u ∷ us)))
