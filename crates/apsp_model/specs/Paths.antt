-- What a list of kept paths says.
use Rattle.std.specs.Prelude.{◌≡◌, ℕ, ⊤, Bool, IsTrue, List, [], ◌∷◌, Contains}
use Rattle.apsp_model.specs.Kept.{Moment}

-- a kept path: its vertices, its weight, whether it is historical, and its birth
pub record KeptPath : Type 0 where
  pub list : List ℕ
  pub weight : ℕ
  pub historical : Bool
  pub birth : ℕ

abbrev pub IsKeptIn : List KeptPath → List ℕ → Type 0
IsKeptIn paths p = (k : KeptPath) × Contains paths k × (k.list ≡ p)

abbrev pub IsHistoricalIn : List KeptPath → List ℕ → Type 0
IsHistoricalIn paths p = (k : KeptPath) × Contains paths k × (k.list ≡ p) × IsTrue k.historical

abbrev pub HasBirthIn : List KeptPath → List ℕ → ℕ → Type 0
HasBirthIn paths p b = (k : KeptPath) × Contains paths k × (k.list ≡ p) × (k.birth ≡ b)

-- no vertex list stands in it twice
abbrev pub IsOncePerList : List KeptPath → Type 0
IsOncePerList [] = ⊤
IsOncePerList (k ∷ ks) = ((j : KeptPath) → Contains ks j → j.list ≡ k.list → ⊥) × IsOncePerList ks

-- what the kept paths say after so many steps
abbrev pub moment_in : ℕ → List KeptPath → Moment
moment_in steps paths = record {
  steps = steps;
  historical = IsHistoricalIn paths;
  kept = IsKeptIn paths;
  birth = HasBirthIn paths;
}
