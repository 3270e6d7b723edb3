-- What the parts of the checker answer.
use Rattle.std.specs.Prelude.{◌≡◌, ◌≢◌, ℕ, ◌<◌, ◌≤◌, ◌↔◌, Bool, true, false, IsTrue, List, length, slice_index, Option, Some, None}
use Rattle.std.specs.declared.cmp.Ordering.TheVariants.{Less}
use Rattle.apsp_model.specs.Graph.{weight_at}
use Rattle.apsp_model.specs.Stated.{Stated, Entry as Stated_entry, IsWay, through, entry_cmp, StepHolds}
use Rattle.version_face.specs.declared.Entry.{Entry}
use Rattle.version_face.specs.Entries.{stated}
use Rattle.cert_check.specs.declared.Reason.{Reason}
use Rattle.cert_check.specs.declared.Failure.{Failure}
use Rattle.cert_check.specs.Tests.{Passes, FailsFirst, IsFirstFailing}

-- the vertices below k to which edges from x lead are in the list
pub record AreEnds (s : Stated) (x k : ℕ) (ends : List ℕ) : Type 0 where
  pub few : length ends ≤ k
  pub inside : (i : ℕ) → i < length ends → slice_index ends i < s.graph.vertices
  pub all : (u w : ℕ) → u < k → weight_at s.graph x u ≡ Some w → (i : ℕ) × (i < length ends) × (slice_index ends i ≡ u)

-- the edge to u and the entry from there on, together, and none exactly where one of them is missing
abbrev pub IsWayAnswer : Stated → ℕ → ℕ → ℕ → Option Entry → Type 0
IsWayAnswer s x u y None = (w : ℕ) (d : Stated_entry) → IsWay s x u y w d → ⊥
IsWayAnswer s x u y (Some e) = (w : ℕ) × (d : Stated_entry) × IsWay s x u y w d × (stated e ≡ through u w d)

abbrev pub IsStepAnswer : Stated → ℕ → ℕ → Entry → Bool → Type 0
IsStepAnswer s x y e b = IsTrue b ↔ StepHolds s x y (stated e)

abbrev pub IsBelowAnswer : Entry → Entry → Bool → Type 0
IsBelowAnswer d e b = IsTrue b ↔ (entry_cmp (stated d) (stated e) ≡ Less)

-- whether an edge to a vertex below k and the entry from there on make less
abbrev pub IsSmallerAnswer : Stated → ℕ → ℕ → Entry → ℕ → Bool → Type 0
IsSmallerAnswer s x y e k true =
    (u : ℕ) × (w : ℕ) × (d : Stated_entry) × IsWay s x u y w d × (entry_cmp (through u w d) (stated e) ≡ Less)
IsSmallerAnswer s x y e k false =
    (u w : ℕ) (d : Stated_entry) → u < k → IsWay s x u y w d → entry_cmp (through u w d) (stated e) ≡ Less → ⊥

-- whether an edge to a vertex below k leads on to an entry
abbrev pub IsMissingAnswer : Stated → ℕ → ℕ → ℕ → Bool → Type 0
IsMissingAnswer s x y k true = (u : ℕ) × (w : ℕ) × (d : Stated_entry) × IsWay s x u y w d
IsMissingAnswer s x y k false = (u w : ℕ) (d : Stated_entry) → u < k → IsWay s x u y w d → ⊥

abbrev pub IsPairAnswer : Stated → ℕ → ℕ → Option Reason → Type 0
IsPairAnswer s x y None = Passes s x y
IsPairAnswer s x y (Some reason) = FailsFirst s x y reason

-- all pairs from x to the vertices below k pass their tests
abbrev pub RowPasses : Stated → ℕ → ℕ → Type 0
RowPasses s x k = (y : ℕ) → y < k → x ≢ y → Passes s x y

abbrev pub IsRowAnswer : Stated → ℕ → ℕ → Option (ℕ × Reason) → Type 0
IsRowAnswer s x k None = RowPasses s x k
IsRowAnswer s x k (Some p) = (p.0 < k) × (x ≢ p.0) × FailsFirst s x p.0 p.1 × RowPasses s x p.0

-- all pairs from the vertices below k pass their tests
pub record RowsPass (s : Stated) (k : ℕ) : Type 0 where
  pub rows : (x : ℕ) → x < k → RowPasses s x s.graph.vertices

abbrev pub IsFailureAnswer : Stated → ℕ → Option Failure → Type 0
IsFailureAnswer s k None = RowsPass s k
IsFailureAnswer s k (Some f) = IsFirstFailing s f.x f.y f.reason
