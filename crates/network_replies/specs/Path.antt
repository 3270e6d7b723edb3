-- The reply to `path`: a least walk.
use Rattle.std.specs.Prelude.{◌≡◌, ℕ, List, Option}
use Rattle.apsp_model.specs.Graph.{Graph}
use Rattle.apsp_model.specs.Least.{LeastIs}
use Rattle.network_replies.specs.Replies.{path_text}

-- the least walk from x to y, and none exactly where there is no walk
abbrev pub IsPathReply : Graph → ℕ → ℕ → List ℕ → Type 0
IsPathReply g x y text = (walk : Option (List ℕ)) × LeastIs g x y walk × (text ≡ path_text g x y walk)
