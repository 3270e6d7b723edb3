-- The replies to `ecc`, `report` and `through`: what is reported of the graph.
use Rattle.std.specs.Prelude.{◌≡◌, ℕ, List, length}
use Rattle.apsp_model.specs.Graph.{Graph}
use Rattle.path_reports.specs.Reports.{IsSpan, IsSummary, ArePassing}
use Rattle.path_reports.specs.declared.reports.Span.{Span}
use Rattle.path_reports.specs.declared.reports.Summary.{Summary}
use Rattle.path_reports.specs.declared.reports.Pair.{Pair}
use Rattle.network_replies.specs.Replies.{ecc_text, report_text, through_text}

-- how far x reaches, and how many vertices
abbrev pub IsEccReply : Graph → ℕ → List ℕ → Type 0
IsEccReply g x text = (s : Span) × IsSpan g x s × (text ≡ ecc_text x s)

-- the diameter, the radius and the centre
abbrev pub IsReportReply : Graph → List ℕ → Type 0
IsReportReply g text = (s : Summary) × IsSummary g s × (text ≡ report_text s)

-- how many pairs of other vertices have v in their least walk
abbrev pub IsThroughReply : Graph → ℕ → List ℕ → Type 0
IsThroughReply g v text = (pairs : List Pair) × ArePassing g v pairs × (text ≡ through_text v (length pairs))
