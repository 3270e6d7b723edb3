-- What a cutter of lines stands for.
use Rattle.std.specs.Prelude.{◌≡◌, ℕ, ◌≤◌, Bool, true, false, nat_lt, List, [], ◌∷◌, ◌++◌, length, take}
use Rattle.std.specs.List.{list_any, before_first}
use Rattle.script_reader.specs.declared.TheConstants.{MOST_LINE_BYTES}
use Rattle.script_reader.specs.Input.{is_newline, whole_lines, open_rest}

-- the first bytes of the content so far, whether it has more of them, and whether it is a whole line
pub record Cutting : Type 0 where
  pub kept : List ℕ
  pub too_long : Bool
  pub whole : Bool

-- what is kept of a content
pub record StandsFor (cutting : Cutting) (content : List ℕ) : Type 0 where
  pub kept : cutting.kept ≡ take MOST_LINE_BYTES content
  pub too_long : cutting.too_long ≡ nat_lt MOST_LINE_BYTES (length content)

-- what stands before the first newline of a piece, or all of it
abbrev pub line_part : List ℕ → List ℕ
line_part piece = before_first is_newline piece

abbrev pub has_newline : List ℕ → Bool
has_newline piece = list_any is_newline piece

-- The lines of an input with so many bytes of a piece behind it: one line more where the first newline
-- of the piece is taken, and the same lines with a longer rest otherwise.
abbrev pub CutsLines : Bool → ℕ → List ℕ → List ℕ → Type 0
CutsLines true used input piece = (whole_lines (input ++ take used piece)
    ≡ whole_lines input ++ (open_rest input ++ line_part piece) ∷ []) × (open_rest (input ++ take used piece) ≡ [])
CutsLines false used input piece = (whole_lines (input ++ take used piece) ≡ whole_lines input)
    × (open_rest (input ++ take used piece) ≡ open_rest input ++ line_part piece)

pub record IsCutting (kept : List ℕ) (capacity : ℕ) (too_long : Bool) : Type 0 where
  pub size : length kept ≤ MOST_LINE_BYTES
  pub room : MOST_LINE_BYTES ≤ capacity
  pub full : too_long ≡ true → length kept ≡ MOST_LINE_BYTES
