-- The texts of replies: each is one line.
use Rattle.std.specs.Prelude.{ℕ, List, [], ◌∷◌, ◌++◌, Option, Some, None, codes}
use Rattle.std.specs.List.{flat_map}
use Rattle.std.specs.Fmt.{decimal}
use Rattle.apsp_model.specs.Graph.{Graph}
use Rattle.apsp_model.specs.Walk.{weight_of}
use Rattle.block_run.specs.declared.answers.Answer.{Answer}
use Rattle.apsp_model.specs.Counts.{Counts}
use Rattle.path_reports.specs.declared.reports.Span.{Span}
use Rattle.path_reports.specs.declared.reports.Summary.{Summary}

-- a number behind a space
abbrev pub number_text : ℕ → List ℕ
number_text k = codes " " ++ decimal k

-- a distance behind a space
abbrev pub entry_text : Option ℕ → List ℕ
entry_text None = codes " none"
entry_text (Some d) = number_text d

abbrev pub dist_text : ℕ → ℕ → Option ℕ → List ℕ
dist_text x y d = codes "dist " ++ decimal x ++ codes " " ++ decimal y ++ entry_text d ++ codes "\n"

abbrev pub row_text : ℕ → List (Option ℕ) → List ℕ
row_text x row = codes "row " ++ decimal x ++ flat_map entry_text row ++ codes "\n"

-- a walk behind its weight in the graph, or `none`
abbrev pub walk_text : Graph → Option (List ℕ) → List ℕ
walk_text g None = codes " none"
walk_text g (Some p) = number_text (weight_of g p) ++ codes " walk" ++ flat_map number_text p

abbrev pub path_text : Graph → ℕ → ℕ → Option (List ℕ) → List ℕ
path_text g x y walk = codes "path " ++ decimal x ++ codes " " ++ decimal y ++ walk_text g walk ++ codes "\n"

abbrev pub stats_text : Counts → List ℕ
stats_text c =
    codes "stats updates " ++ decimal c.updates ++ codes " steps " ++ decimal c.steps
    ++ codes " paths " ++ decimal c.paths ++ codes " historical " ++ decimal c.historical
    ++ codes " formed " ++ decimal c.formed ++ codes " removed " ++ decimal c.removed ++ codes "\n"

-- a birth behind its word
abbrev pub birth_text : Option ℕ → List ℕ
birth_text None = codes " none"
birth_text (Some b) = codes " birth " ++ decimal b

abbrev pub age_text : List ℕ → Option ℕ → List ℕ
age_text list birth = codes "age" ++ flat_map number_text list ++ birth_text birth ++ codes "\n"

abbrev pub ecc_text : ℕ → Span → List ℕ
ecc_text x s =
    codes "ecc " ++ decimal x ++ codes " far " ++ decimal s.far ++ codes " reach " ++ decimal s.reach ++ codes "\n"

-- a radius before its centre, or `none`
abbrev pub radius_text : Option ℕ → List ℕ → List ℕ
radius_text None centre = codes " radius none"
radius_text (Some r) centre = codes " radius " ++ decimal r ++ codes " centre" ++ flat_map number_text centre

abbrev pub report_text : Summary → List ℕ
report_text s = codes "report diameter " ++ decimal s.diameter ++ radius_text s.radius s.centre ++ codes "\n"

-- how many pairs pass the vertex v
abbrev pub through_text : ℕ → ℕ → List ℕ
through_text v pairs = codes "through " ++ decimal v ++ codes " pairs " ++ decimal pairs ++ codes "\n"

-- the refusal of the line with this number
abbrev pub error_text : ℕ → ℕ → ℕ → List ℕ
error_text line code place =
    codes "line " ++ decimal line ++ codes " error " ++ decimal code ++ codes " at " ++ decimal place ++ codes "\n"

-- the walk of an answer behind its weight; a walk has at least one vertex
abbrev pub answer_walk_text : ℕ → List ℕ → List ℕ
answer_walk_text dist [] = codes " none"
answer_walk_text dist (v ∷ walk) = number_text dist ++ codes " walk" ++ flat_map number_text (v ∷ walk)

abbrev pub answer_text : Answer → List ℕ
answer_text a = codes "at " ++ decimal a.number ++ codes " path " ++ decimal a.x ++ codes " " ++ decimal a.y
    ++ answer_walk_text a.dist a.walk ++ codes "\n"
