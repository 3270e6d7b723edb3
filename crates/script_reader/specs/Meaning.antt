-- The meaning of a line: by cases on its words, the tests in their one order.
use Rattle.std.specs.Prelude.{ℕ, ◌+◌, Bool, true, false, not, ◌==◌, ◌&&◌, ◌||◌, nat_lt, nat_le, min, if◌then◌else◌, List, [], ◌∷◌, length, Option, Some, None, Result, Ok}
use Rattle.apsp_model.specs.declared.TheConstants.{MOST_VERTICES}
use Rattle.graph_store.specs.Making.{no_star}
use Rattle.script_reader.specs.declared.TheConstants.{MOST_LINE_BYTES, MOST_IN_BLOCK}
use Rattle.script_reader.specs.declared.code.TheConstants.{NO_VERTICES, VERTICES_TWICE, COMMAND, SHAPE, VERTEX, SELF_EDGE, TOO_LONG, NEEDS_LIVE, BLOCK_FULL, OPEN_BLOCK, SINCE, NOT_MORE, NOT_SERVED}
use Rattle.script_reader.specs.declared.Context.{Context}
use Rattle.script_reader.specs.declared.Command.{Command}
use Rattle.script_reader.specs.declared.Command.TheVariants as command
use Rattle.script_reader.specs.declared.Line.{Line}
use Rattle.script_reader.specs.declared.Line.TheVariants.{Nothing, Vertices, Star, Edge, Cut, Dist, Path, Row, Stats, Age, Cert, Block, Ask, End, Grow, Ecc, Report, Through}
use Rattle.script_reader.specs.declared.Group.TheVariants.{Out}
use Rattle.script_reader.specs.Words.{words_of, is_comment, is_since, command_of}
use Rattle.script_reader.specs.Refused.{Refusal, refused, ◌>>=◌}
use Rattle.script_reader.specs.Edges.{number_at, vertex_at, weight_at_word, vertices_at, first_misfit, star_with_groups}

abbrev pub is_vertices : Command → Bool
is_vertices command.Vertices = true
is_vertices _ = false

-- commands that change edges, the updates that may stand in a block
abbrev pub changes_edges : Command → Bool
changes_edges command.Star = true
changes_edges command.Edge = true
changes_edges command.Cut = true
changes_edges _ = false

-- commands that stand in blocks alone
abbrev pub is_inner : Command → Bool
is_inner command.Ask = true
is_inner command.End = true
is_inner _ = false

-- commands that begin a block, or stand in blocks alone
abbrev pub is_of_block : Command → Bool
is_of_block command.Block = true
is_of_block c = is_inner c

-- whether the session does not serve a command
abbrev pub is_unserved : Context → Command → Bool
is_unserved context command.Age = context.no_age
is_unserved context command.Grow = context.no_grow
is_unserved context _ = false

-- whether a block has no room for what the command adds to it
abbrev pub is_full : Context → Command → Bool
is_full context command.Ask = nat_le MOST_IN_BLOCK context.asks
is_full context c = changes_edges c && nat_le MOST_IN_BLOCK context.updates

-- why a command cannot stand here, whatever its other words are
abbrev pub misplaced : Context → Command → Option ℕ
misplaced context c =
    if context.live && (not context.inside && is_inner c) then Some COMMAND
    else (if not context.live && is_of_block c then Some NEEDS_LIVE
    else (if is_unserved context c then Some NOT_SERVED
    else (if context.inside && not (changes_edges c || is_inner c) then Some OPEN_BLOCK
    else (if is_vertices c then (if context.vertices == 0 then None else Some VERTICES_TWICE)
    else (if context.vertices == 0 then Some NO_VERTICES
    else (if context.inside && is_full context c then Some BLOCK_FULL
    else None))))))

-- where a command takes so many words behind it, the place of the first word too many, or of the one
-- that is missing
abbrev pub misshapen : {A : Type 0} → ℕ → List (List ℕ) → Result A Refusal
misshapen count arguments = refused SHAPE (min (length arguments) count + 2)

-- one word, a number of vertices
abbrev pub vertex_count : List (List ℕ) → Result ℕ Refusal
vertex_count (w ∷ []) =
    number_at 2 w >>= (λ m. if nat_le 1 m && nat_le m MOST_VERTICES then Ok m else refused VERTEX 2)
vertex_count arguments = misshapen 1 arguments

abbrev pub vertices_line : List (List ℕ) → Result Line Refusal
vertices_line arguments = vertex_count arguments >>= (λ m. Ok (Vertices m))

abbrev pub grow_line : ℕ → List (List ℕ) → Result Line Refusal
grow_line n arguments = vertex_count arguments >>= (λ m. if nat_le m n then refused NOT_MORE 2 else Ok (Grow m))

-- the star of the first word with the items of the others, unless one of them is a misfit
abbrev pub star_unless : Option ℕ → ℕ → List ℕ → List (List ℕ) → Result Line Refusal
star_unless (Some place) n w ws = refused SHAPE place
star_unless None n w ws = vertex_at n 2 w >>= (λ v. star_with_groups (no_star n v) Out 3 ws >>= (λ s. Ok (Star s)))

abbrev pub star_line : ℕ → List (List ℕ) → Result Line Refusal
star_line n [] = refused SHAPE 2
star_line n (w ∷ ws) = star_unless (first_misfit [] 3 ws) n w ws

abbrev pub edge_line : ℕ → List (List ℕ) → Result Line Refusal
edge_line n (a ∷ b ∷ c ∷ []) =
    vertex_at n 2 a >>= (λ u.
    vertex_at n 3 b >>= (λ v.
    if u == v then refused SELF_EDGE 3 else (weight_at_word 4 c >>= (λ w. Ok (Edge u v w)))))
edge_line n arguments = misshapen 3 arguments

-- two words, each a vertex
abbrev pub two_vertices : ℕ → List (List ℕ) → Result (ℕ × ℕ) Refusal
two_vertices n (a ∷ b ∷ []) = vertex_at n 2 a >>= (λ x. vertex_at n 3 b >>= (λ y. Ok (x, y)))
two_vertices n arguments = misshapen 2 arguments

abbrev pub cut_line : ℕ → List (List ℕ) → Result Line Refusal
cut_line n arguments = two_vertices n arguments >>= (λ p. if p.0 == p.1 then refused SELF_EDGE 3 else Ok (Cut p.0 p.1))

-- one word, a vertex
abbrev pub one_vertex : ℕ → List (List ℕ) → Result ℕ Refusal
one_vertex n (a ∷ []) = vertex_at n 2 a
one_vertex n arguments = misshapen 1 arguments

abbrev pub row_line : ℕ → List (List ℕ) → Result Line Refusal
row_line n arguments = one_vertex n arguments >>= (λ x. Ok (Row x))

abbrev pub ecc_line : ℕ → List (List ℕ) → Result Line Refusal
ecc_line n arguments = one_vertex n arguments >>= (λ x. Ok (Ecc x))

abbrev pub through_line : ℕ → List (List ℕ) → Result Line Refusal
through_line n arguments = one_vertex n arguments >>= (λ v. Ok (Through v))

abbrev pub stats_line : List (List ℕ) → Result Line Refusal
stats_line [] = Ok Stats
stats_line arguments = misshapen 0 arguments

abbrev pub report_line : List (List ℕ) → Result Line Refusal
report_line [] = Ok Report
report_line arguments = misshapen 0 arguments

abbrev pub cert_line : List (List ℕ) → Result Line Refusal
cert_line [] = Ok Cert
cert_line arguments = misshapen 0 arguments

abbrev pub age_line : ℕ → List (List ℕ) → Result Line Refusal
age_line n [] = refused SHAPE 2
age_line n (w ∷ ws) = vertices_at n 2 (w ∷ ws) >>= (λ us. Ok (Age us))

abbrev pub block_line : List (List ℕ) → Result Line Refusal
block_line [] = Ok Block
block_line arguments = misshapen 0 arguments

abbrev pub end_line : List (List ℕ) → Result Line Refusal
end_line [] = Ok End
end_line arguments = misshapen 0 arguments

-- the word of the number behind `since`
abbrev pub since_number : List (List ℕ) → Result (Option (List ℕ)) Refusal
since_number [] = refused SHAPE 5
since_number (w ∷ []) = Ok (Some w)
since_number (w ∷ v ∷ ws) = refused SHAPE 6

-- the same, or none, of what stands behind the vertices of a question
abbrev pub since_word : List (List ℕ) → Result (Option (List ℕ)) Refusal
since_word [] = Ok None
since_word (w ∷ ws) = if is_since w then since_number ws else refused SHAPE 4

-- how many updates a question asks for, where its block has so many so far: none where no word says
abbrev pub since_at : ℕ → Option (List ℕ) → Result ℕ Refusal
since_at so_far None = Ok 0
since_at so_far (Some w) = number_at 5 w >>= (λ j. if nat_lt so_far j then refused SINCE 5 else Ok j)

abbrev pub ask_line : ℕ → ℕ → List (List ℕ) → Result Line Refusal
ask_line n so_far [] = refused SHAPE 2
ask_line n so_far (a ∷ []) = refused SHAPE 3
ask_line n so_far (a ∷ b ∷ ws) =
    since_word ws >>= (λ number.
    vertex_at n 2 a >>= (λ x.
    vertex_at n 3 b >>= (λ y.
    since_at so_far number >>= (λ since. Ok (Ask x y since)))))

-- the meaning of the words behind a command
abbrev pub line_with : Command → Context → List (List ℕ) → Result Line Refusal
line_with command.Vertices context arguments = vertices_line arguments
line_with command.Star context arguments = star_line context.vertices arguments
line_with command.Edge context arguments = edge_line context.vertices arguments
line_with command.Cut context arguments = cut_line context.vertices arguments
line_with command.Dist context arguments = two_vertices context.vertices arguments >>= (λ p. Ok (Dist p.0 p.1))
line_with command.Path context arguments = two_vertices context.vertices arguments >>= (λ p. Ok (Path p.0 p.1))
line_with command.Row context arguments = row_line context.vertices arguments
line_with command.Stats context arguments = stats_line arguments
line_with command.Age context arguments = age_line context.vertices arguments
line_with command.Cert context arguments = cert_line arguments
line_with command.Block context arguments = block_line arguments
line_with command.Ask context arguments = ask_line context.vertices context.updates arguments
line_with command.End context arguments = end_line arguments
line_with command.Grow context arguments = grow_line context.vertices arguments
line_with command.Ecc context arguments = ecc_line context.vertices arguments
line_with command.Report context arguments = report_line arguments
line_with command.Through context arguments = through_line context.vertices arguments

abbrev pub line_unless : Option ℕ → Command → Context → List (List ℕ) → Result Line Refusal
line_unless (Some code) c context arguments = refused code 1
line_unless None c context arguments = line_with c context arguments

abbrev pub command_line : Context → Option Command → List (List ℕ) → Result Line Refusal
command_line context None arguments = refused COMMAND 1
command_line context (Some c) arguments = line_unless (misplaced context c) c context arguments

abbrev pub line_of_words : Context → List (List ℕ) → Result Line Refusal
line_of_words context [] = Ok Nothing
line_of_words context (w ∷ ws) = if is_comment w then Ok Nothing else command_line context (command_of w) ws

-- the line that the bytes are, or why and where they are refused
abbrev pub line_of : Context → List ℕ → Result Line Refusal
line_of context bytes =
    if nat_lt MOST_LINE_BYTES (length bytes) then refused TOO_LONG 0 else line_of_words context (words_of bytes)
