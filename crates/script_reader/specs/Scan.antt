-- What a call for the next word gives.
use Rattle.std.specs.Prelude.{◌≡◌, ℕ, ◌+◌, Bool, not, ◌||◌, ◌==◌, if◌then◌else◌, ◌∷◌, [], List, count_by, Option, Some, None}
use Rattle.script_reader.specs.declared.scan.Word.{Word}
use Rattle.script_reader.specs.declared.scan.Words.{Words}
use Rattle.script_reader.specs.Words.{words_of, is_out, is_in}
use Rattle.script_reader.specs.Edges.{is_colon}

-- the words that are left
abbrev pub words_left : Words → List (List ℕ)
words_left words = words_of words.rest.now

-- the first of the words that are left is given with its number, and none where none is left
abbrev pub GivesWord : Words → Option Word → Words → Type 0
GivesWord old None new = words_left old ≡ []
GivesWord old (Some word) new =
    (words_left old ≡ word.bytes.now ∷ words_left new) × (word.place ≡ old.place) × (new.place ≡ old.place + 1)

-- whether a word cannot stand where the words `out` and `in` stood before it, or did not
abbrev pub is_misfit_after : Bool → Bool → List ℕ → Bool
is_misfit_after has_out has_in w = if is_out w then has_out
    else (if is_in w then has_in else not (has_out || has_in) || not (count_by is_colon w == 1))
