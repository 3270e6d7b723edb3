-- Kept paths with further single vertices beside them.
use Rattle.std.specs.Prelude.{◌≡◌, ℕ, ◌⊎◌, IsTrue, List, Contains}
use Rattle.apsp_model.specs.Local.{IsVertex}
use Rattle.apsp_model.specs.Paths.{KeptPath, IsOncePerList}

-- a single vertex below n, as it is kept
pub record IsSingleKept (n : ℕ) (k : KeptPath) : Type 0 where
  pub single : IsVertex n k.list
  pub weight : k.weight ≡ 0
  pub historical : IsTrue k.historical
  pub birth : k.birth ≡ 0

-- the kept paths with the single vertices below n beside them
pub record IsWidenedTo (n : ℕ) (before after : List KeptPath) : Type 0 where
  pub old : (k : KeptPath) → Contains before k → Contains after k
  pub new : (k : KeptPath) → Contains after k → Contains before k ⊎ IsSingleKept n k
  pub singles : (p : List ℕ) → IsVertex n p → (k : KeptPath) × Contains after k × (k.list ≡ p) × IsSingleKept n k
  pub once : IsOncePerList after
