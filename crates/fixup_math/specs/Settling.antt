-- What a settling keeps: before each class, while a class is worked off, and while its joins are formed.
use Rattle.std.specs.Prelude.{ℕ, ◌<◌, ◌⊎◌, ◌↔◌, List, length, Contains}
use Rattle.apsp_model.specs.Graph.{Graph}
use Rattle.apsp_model.specs.Walk.{IsWalkFrom}
use Rattle.apsp_model.specs.Part.{IsClosedUnderParts}
use Rattle.apsp_model.specs.Least.{IsLeast, IsLeastWalk}
use Rattle.apsp_model.specs.Local.{IsVertex, IsLocal}
use Rattle.apsp_model.specs.Order.{IsUpto}

-- H is historical, K kept and Q held, and Won says which pairs are won
pub record HeldCoverKept (g : Graph) (H K Q : List ℕ → Type 0) (Won : ℕ → ℕ → Type 0) : Type 0 where
  -- of a pair that is not won each kept path has a held or historical one that is not above it
  pub covered : (x y : ℕ) (p : List ℕ) → K p → IsWalkFrom g x y p → 1 < length p
      → Won x y ⊎ ((q : List ℕ) × (Q q ⊎ H q) × IsWalkFrom g x y q × IsUpto g q p)
  -- of a pair that is not won no held path is above a historical one
  pub first : (x y : ℕ) (q p : List ℕ) → Q q → H p → IsWalkFrom g x y q → IsWalkFrom g x y p → Won x y ⊎ IsUpto g q p
  -- .. or historical itself
  pub fresh : (x y : ℕ) (q : List ℕ) → Q q → H q → IsWalkFrom g x y q → Won x y

-- q is the least kept path of its pair
pub record IsLeastKept (g : Graph) (K : List ℕ → Type 0) (x y : ℕ) (q : List ℕ) : Type 0 where
  pub kept : K q
  pub walk : IsWalkFrom g x y q
  pub first : (p : List ℕ) → K p → IsWalkFrom g x y p → IsUpto g q p

-- what holds of a settling before each class, where H0 held at its start: what is historical, kept and held by now, and
-- which pairs are won
pub record SettlingInvariant (g : Graph) (H0 H K Q : List ℕ → Type 0) (Won : ℕ → ℕ → Type 0) : Type 0 where
  pub closed : IsClosedUnderParts H
  pub singles : (p : List ℕ) → IsVertex g.vertices p → H p
  pub old : (p : List ℕ) → H0 p → H p
  pub grown : (p : List ℕ) → H p → H0 p ⊎ IsLeastWalk g p
  pub kept : (p : List ℕ) → K p ↔ IsLocal g H p
  pub marked_kept : (p : List ℕ) → H p → K p
  pub held_kept : (p : List ℕ) → Q p → K p
  pub queued : HeldCoverKept g H K Q Won
  pub won : (x y : ℕ) → Won x y → (w : List ℕ) × H w × IsLeast g x y w

-- a class is taken: c is of least rank, Rest stays held, and Winner holds of the least path of each pair that was not
-- won
pub record IsClass (g : Graph) (UpTo : List ℕ → List ℕ → Type 0) (Q Rest Winner : List ℕ → Type 0)
    (Won : ℕ → ℕ → Type 0) (c : List ℕ) : Type 0 where
  pub lowest : (q : List ℕ) → Q q → UpTo c q
  pub taken : (q : List ℕ) → Q q → Rest q ⊎ UpTo q c
  pub rest : (q : List ℕ) → Rest q → Q q
  pub won_then : (x y : ℕ) (q : List ℕ) → Q q → UpTo q c → IsWalkFrom g x y q
      → Won x y ⊎ ((w : List ℕ) × Winner w × IsWalkFrom g x y w)
  pub winner_held : (w : List ℕ) → Winner w → Q w
  pub winner_in_class : (w : List ℕ) → Winner w → UpTo w c
  pub winner_long : (w : List ℕ) → Winner w → 1 < length w
  pub winner_fresh : (x y : ℕ) (w : List ℕ) → Winner w → IsWalkFrom g x y w → Won x y → ⊥
  pub winner_first : (x y : ℕ) (w q : List ℕ) → Winner w → IsWalkFrom g x y w → Q q → IsWalkFrom g x y q → IsUpto g w q

-- what holds once the class of c is taken, where H0 held at the start of the settling: Todo holds of its winners, which
-- are to be promoted
pub record ClassInvariant (g : Graph) (UpTo : List ℕ → List ℕ → Type 0) (H0 H K Q Todo : List ℕ → Type 0)
    (Won : ℕ → ℕ → Type 0) (c : List ℕ) : Type 0 where
  pub closed : IsClosedUnderParts H
  pub singles : (p : List ℕ) → IsVertex g.vertices p → H p
  pub old : (p : List ℕ) → H0 p → H p
  pub grown : (p : List ℕ) → H p → H0 p ⊎ IsLeastWalk g p
  pub kept : (p : List ℕ) → K p ↔ IsLocal g H p
  pub marked_kept : (p : List ℕ) → H p → K p
  pub held_kept : (p : List ℕ) → Q p → K p
  pub queued : HeldCoverKept g H K Q Won
  pub won : (x y : ℕ) → Won x y → (w : List ℕ) × (H w ⊎ Todo w) × IsLeast g x y w
  pub todo_kept : (w : List ℕ) → Todo w → K w
  pub todo_least : (w : List ℕ) → Todo w → IsLeastWalk g w
  pub todo_long : (w : List ℕ) → Todo w → 1 < length w
  pub todo_new : (w : List ℕ) → Todo w → H w → ⊥
  pub todo_won : (x y : ℕ) (w : List ℕ) → Todo w → IsWalkFrom g x y w → Won x y
  pub todo_in_class : (w : List ℕ) → Todo w → UpTo c w

-- H is historical, K was kept and Rest held before the first join; the joins 'done' are formed, K1 is kept and Q1 held
-- by now
pub record FormingInvariant (g : Graph) (H K Rest : List ℕ → Type 0) (Won : ℕ → ℕ → Type 0) (done : List (List ℕ))
    (K1 Q1 : List ℕ → Type 0) : Type 0 where
  pub kept : (p : List ℕ) → K1 p ↔ (K p ⊎ Contains done p)
  pub rest_held : (p : List ℕ) → Rest p → Q1 p
  pub held : (p : List ℕ) → Q1 p → Rest p ⊎ Contains done p
  pub queued : HeldCoverKept g H K1 Q1 Won
