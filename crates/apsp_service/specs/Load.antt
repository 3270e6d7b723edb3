-- A run over generated input.
use Rattle.std.specs.Prelude.{◌≡◌, ℕ, List, ◌++◌, codes}
use Rattle.std.specs.Fmt.{decimal}
use Rattle.load_run.specs.declared.LoadReport.{LoadReport}
use Rattle.load_run.specs.Report.{IsReport}

-- the line of a run on n vertices with this seed
abbrev pub load_text : ℕ → ℕ → LoadReport → List ℕ
load_text n seed r =
    codes "load " ++ decimal n ++ codes " " ++ decimal seed ++ codes " updates " ++ decimal r.updates
    ++ codes " pairs " ++ decimal r.pairs ++ codes " sum " ++ decimal r.sum
    ++ codes " paths " ++ decimal r.paths ++ codes " historical " ++ decimal r.historical ++ codes " certificate yes\n"

abbrev pub IsLoadReply : ℕ → ℕ → List ℕ → Type 0
IsLoadReply n seed text = (r : LoadReport) × IsReport n seed r × (text ≡ load_text n seed r)
