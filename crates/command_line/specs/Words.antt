-- The words of the command line.
use Rattle.std.specs.Prelude.{ℕ, ◌≤◌, ⊤, Bool, true, false, ◌&&◌, ◌||◌, nat_le, is_some, List, [], ◌∷◌, Option, Some, None, IfSome, option_map, option_and_then, unwrap_or, codes, if◌then◌else◌}
use Rattle.std.specs.Str.{bytes_eq}
use Rattle.apsp_model.specs.Limits.{IsWorkerCount, IsReaderCount, IsSlotCount}
use Rattle.apsp_model.specs.declared.TheConstants.{MOST_WORKERS, MOST_READERS, LEAST_SLOTS, MOST_SLOTS}
use Rattle.numerals.specs.Numbers.{number_of}
use Rattle.command_line.specs.declared.words.Mode.{Mode}
use Rattle.command_line.specs.declared.words.Mode.TheVariants as mode
use Rattle.command_line.specs.declared.words.Options.{Options}
use Rattle.command_line.specs.declared.words.TheConstants.{WORKERS, READERS, SLOTS, LEAST_DRAWN, MOST_DRAWN, MOST_DIGITS}

-- how many vertices generated input may have
abbrev pub IsLoadSize : ℕ → Type 0
IsLoadSize n = (LEAST_DRAWN ≤ n) × (n ≤ MOST_DRAWN)

-- the numbers of a mode are in their ranges
abbrev pub HasWorkers : Mode → Type 0
HasWorkers (mode.Run workers smooth) = IsWorkerCount workers
HasWorkers (mode.Live workers readers slots smooth) = IsWorkerCount workers × IsReaderCount readers × IsSlotCount slots
HasWorkers mode.Check = ⊤
HasWorkers (mode.Load n seed workers) = IsLoadSize n × IsWorkerCount workers

-- the number that a word is, of few digits
abbrev pub word_number : List ℕ → Option ℕ
word_number word = number_of MOST_DIGITS word

-- the number that a word is, from least to most
abbrev pub number_in : ℕ → ℕ → List ℕ → Option ℕ
number_in least most word =
    option_and_then (λ k. if nat_le least k && nat_le k most then Some k else None) (word_number word)

-- an option that is given at most once
abbrev pub once : {A : Type 0} → Bool → Option A → Option A
once given option = if given then None else option

-- the numbers that are given are ones that there may be
abbrev pub MayWork : Options → Type 0
MayWork o = IfSome o.workers IsWorkerCount × IfSome o.readers IsReaderCount × IfSome o.slots IsSlotCount

abbrev pub no_options : Options
no_options = record { workers = None; readers = None; slots = None; smooth = false }

abbrev pub with_smooth : Options → Option Options
with_smooth o = once o.smooth (Some (record o { smooth = true }))

abbrev pub with_number : Options → List ℕ → List ℕ → Option Options
with_number o option number =
    if bytes_eq option (codes "--workers") then
    once (is_some o.workers) (option_map (λ k. record o { workers = Some k }) (number_in 1 MOST_WORKERS number))
    else (if bytes_eq option (codes "--readers") then
    once (is_some o.readers) (option_map (λ k. record o { readers = Some k }) (number_in 1 MOST_READERS number))
    else (if bytes_eq option (codes "--slots") then
    once (is_some o.slots) (option_map (λ k. record o { slots = Some k }) (number_in LEAST_SLOTS MOST_SLOTS number))
    else None))

-- what the words say behind the options that are given already: all but `--smooth` are two words
abbrev pub options_from : Options → List (List ℕ) → Option Options
options_from given [] = Some given
options_from given (option ∷ []) = if bytes_eq option (codes "--smooth") then with_smooth given else None
options_from given (option ∷ number ∷ rest) =
    if bytes_eq option (codes "--smooth") then option_and_then (λ o. options_from o (number ∷ rest)) (with_smooth given)
    else option_and_then (λ o. options_from o rest) (with_number given option number)

-- what the options behind the mode `run` say
abbrev pub run_with : Options → Option Mode
run_with o =
    if is_some o.readers || is_some o.slots then None else Some (mode.Run (unwrap_or o.workers WORKERS) o.smooth)

abbrev pub run_of : List (List ℕ) → Option Mode
run_of words = option_and_then run_with (options_from no_options words)

-- what the options behind the mode `live` say
abbrev pub live_with : Options → Option Mode
live_with o =
    Some (mode.Live (unwrap_or o.workers WORKERS) (unwrap_or o.readers READERS) (unwrap_or o.slots SLOTS) o.smooth)

abbrev pub live_of : List (List ℕ) → Option Mode
live_of words = option_and_then live_with (options_from no_options words)

-- the mode `check` has no options
abbrev pub check_of : List (List ℕ) → Option Mode
check_of [] = Some mode.Check
check_of (option ∷ options) = None

-- the mode `load` with the words of its two numbers, and its options
abbrev pub load_with : ℕ → ℕ → Options → Option Mode
load_with n seed o =
    if o.smooth || (is_some o.readers || is_some o.slots) then None
    else Some (mode.Load n seed (unwrap_or o.workers WORKERS))

abbrev pub drawn_of : List ℕ → List ℕ → List (List ℕ) → Option Mode
drawn_of n seed words =
    option_and_then
    (λ k. option_and_then (λ s. option_and_then (load_with k s) (options_from no_options words)) (word_number seed))
    (number_in LEAST_DRAWN MOST_DRAWN n)

abbrev pub load_of : List (List ℕ) → Option Mode
load_of [] = None
load_of (n ∷ []) = None
load_of (n ∷ seed ∷ words) = drawn_of n seed words

-- the mode that the words give, if they are in the grammar; no words mean `run`
abbrev pub mode_of : List (List ℕ) → Option Mode
mode_of [] = run_of []
mode_of (word ∷ rest) =
    if bytes_eq word (codes "run") then run_of rest
    else (if bytes_eq word (codes "live") then live_of rest
    else (if bytes_eq word (codes "check") then check_of rest
    else (if bytes_eq word (codes "load") then load_of rest else None)))
