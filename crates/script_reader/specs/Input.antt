-- The lines of an input: it is cut at each newline, and what stands after the last one is a line too
-- if it is not empty.
use Rattle.std.specs.Prelude.{ℕ, Bool, ◌==◌, if◌then◌else◌, List, [], ◌∷◌, ◌++◌}
use Rattle.std.specs.List.{list_any}

abbrev pub is_newline : ℕ → Bool
is_newline b = b == 10

-- a byte before the first of the lines, if there is one
abbrev pub onto_line : ℕ → List (List ℕ) → List (List ℕ)
onto_line b [] = []
onto_line b (line ∷ lines) = (b ∷ line) ∷ lines

-- the lines that a newline ends, without it
abbrev pub whole_lines : List ℕ → List (List ℕ)
whole_lines [] = []
whole_lines (b ∷ bs) = if is_newline b then [] ∷ whole_lines bs else onto_line b (whole_lines bs)

-- what stands after the last newline
abbrev pub open_rest : List ℕ → List ℕ
open_rest [] = []
open_rest (b ∷ bs) = if is_newline b then open_rest bs else (if list_any is_newline bs then open_rest bs else b ∷ bs)

abbrev pub line_if_some : List ℕ → List (List ℕ)
line_if_some [] = []
line_if_some (b ∷ bs) = (b ∷ bs) ∷ []

abbrev pub lines_of : List ℕ → List (List ℕ)
lines_of bytes = whole_lines bytes ++ line_if_some (open_rest bytes)
