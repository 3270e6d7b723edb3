-- What contracts see of the cells, of a pin and of a claimed slot.
use Rattle.std.specs.Prelude.{◌≡◌, ℕ, refl}
use Rattle.std.specs.Coded.{Coded, code_by, coded×, coded_ℕ}
use Rattle.graph_store.specs.Plan.{Plan, IsVersionOf, plan_code}
use Rattle.version_face.specs.Seen.{VersionSeen, version_seen_code}

-- a plan, and how many slots hold versions of it
pub record Cells : Type 0 where
  pub plan : Plan
  pub slots : ℕ

abbrev pub cells_code : Coded Cells
cells_code =
    code_by (Plan × ℕ) (coded× plan_code coded_ℕ) (λ c. (c.plan, c.slots)) (λ t. record { plan = t.0; slots = t.1 })
    (λ _. refl)

-- a slot, and the version that stands there
pub record Pin : Type 0 where
  pub slot : ℕ
  pub version : VersionSeen

abbrev pub pin_code : Coded Pin
pin_code =
    code_by (ℕ × VersionSeen) (coded× coded_ℕ version_seen_code) (λ p. (p.slot, p.version))
    (λ t. record { slot = t.0; version = t.1 }) (λ _. refl)

-- a slot, and the plan whose versions it takes
pub record Claimed : Type 0 where
  pub plan : Plan
  pub slot : ℕ

abbrev pub claimed_code : Coded Claimed
claimed_code =
    code_by (Plan × ℕ) (coded× plan_code coded_ℕ) (λ c. (c.plan, c.slot)) (λ t. record { plan = t.0; slot = t.1 })
    (λ _. refl)

-- the plan's version of its own number
abbrev pub IsOfPlan : Plan → VersionSeen → Type 0
IsOfPlan plan v = IsVersionOf plan v.number v.graph

-- a pin of that slot that shows the plan's version of that number
pub record IsPinAt (cells : Cells) (k n : ℕ) (pin : Pin) : Type 0 where
  pub slot : pin.slot ≡ k
  pub number : pin.version.number ≡ n
  pub of_plan : IsOfPlan cells.plan pin.version
