-- Distances: what a least walk weighs.
use Rattle.std.specs.Prelude.{◌≡◌, ℕ, ◌<◌, List, length, slice_index_or, Option, Some, None}
use Rattle.apsp_model.specs.Graph.{Graph}
use Rattle.apsp_model.specs.Walk.{weight_of}
use Rattle.apsp_model.specs.Least.{IsLeast, HasNoWalk}
use Rattle.network_replies.specs.Replies.{dist_text, row_text}

-- the weight of the least walk from x to y, and none exactly where there is no walk
abbrev pub IsDistance : Graph → ℕ → ℕ → Option ℕ → Type 0
IsDistance g x y None = HasNoWalk g x y
IsDistance g x y (Some d) = (p : List ℕ) × IsLeast g x y p × (d ≡ weight_of g p)

-- the distances from x to 0, 1, ..
pub record AreDistances (g : Graph) (x : ℕ) (row : List (Option ℕ)) : Type 0 where
  pub size : length row ≡ g.vertices
  pub each : (y : ℕ) → y < g.vertices → IsDistance g x y (slice_index_or row y None)

-- the replies to `dist` and `row`
abbrev pub IsDistReply : Graph → ℕ → ℕ → List ℕ → Type 0
IsDistReply g x y text = (d : Option ℕ) × IsDistance g x y d × (text ≡ dist_text x y d)

abbrev pub IsRowReply : Graph → ℕ → List ℕ → Type 0
IsRowReply g x text = (row : List (Option ℕ)) × AreDistances g x row × (text ≡ row_text x row)
