-- The words of a line, and the commands among them.
use Rattle.std.specs.Prelude.{ℕ, Bool, true, false, ◌==◌, ◌||◌, if◌then◌else◌, List, [], ◌∷◌, drop, filter, codes, Option, Some, None}
use Rattle.std.specs.List.{slice_split, prefix_len}
use Rattle.std.specs.Str.{bytes_eq}
use Rattle.script_reader.specs.declared.Command.{Command}
use Rattle.script_reader.specs.declared.Command.TheVariants.{Vertices, Star, Edge, Cut, Dist, Path, Row, Stats, Age, Cert, Block, Ask, End, Grow, Ecc, Report, Through}
use Rattle.script_reader.specs.declared.Group.{Group}
use Rattle.script_reader.specs.declared.Group.TheVariants.{Out, In}

-- a tab, a carriage return or a space
abbrev pub is_separator : ℕ → Bool
is_separator b = b == 9 || (b == 13 || b == 32)

-- what stands behind the separators that the bytes begin with
abbrev pub behind_separators : List ℕ → List ℕ
behind_separators bytes = drop (prefix_len is_separator bytes) bytes

abbrev pub is_some_word : List ℕ → Bool
is_some_word [] = false
is_some_word (b ∷ bs) = true

-- what stands between separators and is not empty
unfoldable pub words_of : List ℕ → List (List ℕ)
words_of bytes = filter is_some_word (slice_split is_separator bytes)

-- a line whose first word begins with `#` is a comment
abbrev pub is_comment : List ℕ → Bool
is_comment [] = false
is_comment (b ∷ bs) = b == 35

-- the command that a word names
unfoldable pub command_of : List ℕ → Option Command
command_of w =
    if bytes_eq w (codes "vertices") then Some Vertices
    else (if bytes_eq w (codes "star") then Some Star
    else (if bytes_eq w (codes "edge") then Some Edge
    else (if bytes_eq w (codes "cut") then Some Cut
    else (if bytes_eq w (codes "dist") then Some Dist
    else (if bytes_eq w (codes "path") then Some Path
    else (if bytes_eq w (codes "row") then Some Row
    else (if bytes_eq w (codes "stats") then Some Stats
    else (if bytes_eq w (codes "age") then Some Age
    else (if bytes_eq w (codes "cert") then Some Cert
    else (if bytes_eq w (codes "block") then Some Block
    else (if bytes_eq w (codes "ask") then Some Ask
    else (if bytes_eq w (codes "end") then Some End
    else (if bytes_eq w (codes "grow") then Some Grow
    else (if bytes_eq w (codes "ecc") then Some Ecc
    else (if bytes_eq w (codes "report") then Some Report
    else (if bytes_eq w (codes "through") then Some Through
    else None))))))))))))))))

-- the word that begins a group of a star
abbrev pub is_out : List ℕ → Bool
is_out w = bytes_eq w (codes "out")

abbrev pub is_in : List ℕ → Bool
is_in w = bytes_eq w (codes "in")

-- the word before the number of updates that a question asks for
abbrev pub is_since : List ℕ → Bool
is_since w = bytes_eq w (codes "since")

abbrev pub group_of : List ℕ → Option Group
group_of w = if is_out w then Some Out else (if is_in w then Some In else None)
