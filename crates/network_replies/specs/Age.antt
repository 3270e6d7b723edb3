-- The reply to `age`: the birth of a path.
use Rattle.std.specs.Prelude.{◌≡◌, ℕ, Bool, List, Option, Some, None}
use Rattle.apsp_model.specs.Command.{Command}
use Rattle.apsp_model.specs.Kept.{IsKept, HasBirth}
use Rattle.network_replies.specs.Replies.{age_text}

-- the birth of the list after these commands on n vertices, and none where it is not kept
abbrev pub IsBirth : ℕ → Bool → List Command → List ℕ → Option ℕ → Type 0
IsBirth n smooth commands list None = IsKept n smooth commands list → ⊥
IsBirth n smooth commands list (Some b) = HasBirth n smooth commands list b

abbrev pub IsAgeReply : ℕ → Bool → List Command → List ℕ → List ℕ → Type 0
IsAgeReply n smooth commands list text =
    (birth : Option ℕ) × IsBirth n smooth commands list birth × (text ≡ age_text list birth)
