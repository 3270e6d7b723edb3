-- What a graph of two vertices answers, by which the tests fill versions.
use Rattle.std.specs.Prelude.{◌≡◌, ◌≢◌, ℕ, ◌<◌, ◌≤◌, List, [], ◌∷◌, length, Some, None, IsSome, unwrap_or, false, true, refl}
use Rattle.std.proofs.Common.{sym, ◌∙◌, ap, subst, arith}
use Rattle.apsp_model.specs.Graph.{Graph, HasEdge, edge_weight, weight_at}
use Rattle.apsp_model.specs.Walk.{IsWalkFrom}
use Rattle.apsp_model.specs.Least.{IsLeast, HasNoWalk}
use Rattle.apsp_model.proofs.Exists.{least_exists}
use Rattle.apsp_model.proofs.Leasts.{least_is_simple, least_of_vertex}
use Rattle.apsp_model.proofs.Simples.{simple_walk_is_short}
use Rattle.version_face.specs.Entries.{EntryIs}

some_same : (x y : ℕ) → Some x ≡ Some y → x ≡ y
some_same x y e = cc

-- a walk of at most two vertices has its ends alone
ends_alone : (g : Graph) (x y : ℕ) (p : List ℕ) → x ≢ y → IsWalkFrom g x y p → length p ≤ 2 → p ≡ x ∷ y ∷ []
ends_alone g x y [] apart walk short = absurd walk.walk
ends_alone g x y (a ∷ []) apart walk short = absurd (apart (some_same x y (sym walk.from ∙ walk.to)))
ends_alone g x y (a ∷ b ∷ []) apart walk short =
    ap (λ (z : ℕ). z ∷ b ∷ []) (some_same a x walk.from) ∙ ap (λ (z : ℕ). x ∷ z ∷ []) (some_same b y walk.to)
ends_alone g x y (a ∷ b ∷ c ∷ p) apart walk short = absurd (omega arith)

-- where there is a walk between two different vertices, it is their edge
edge_is_least : (g : Graph) (x y : ℕ) (q : List ℕ) → g.vertices ≡ 2 → x ≢ y → IsWalkFrom g x y q
    → IsLeast g x y (x ∷ y ∷ [])
edge_is_least g x y q two apart walk =
    let least = least_exists g x y q walk in
    let short : length least.0 ≤ g.vertices =
    simple_walk_is_short g least.0 least.1.walk.walk (least_is_simple g least.0 (x, y, least.1)) in
    subst (IsLeast g x y) (ends_alone g x y least.0 apart least.1.walk (omega (arith, short, two))) least.1

pub itself : (g : Graph) (x y : ℕ) → x < g.vertices → x ≡ y
    → EntryIs g x y (Some (record { dist = 0; hops = 0; next = x }))
itself g x y inside same = (
  x ∷ [],
  subst (λ z. IsLeast g x z (x ∷ [])) same (least_of_vertex g x inside),
  record
      { dist = refl; hops = refl; next = refl },
)

pub edge : (g : Graph) (x y w : ℕ) → g.vertices ≡ 2 → x < g.vertices → y < g.vertices → x ≢ y → weight_at g x y ≡ Some w
    → EntryIs g x y (Some (record { dist = w; hops = 1; next = y }))
edge g x y w two from to apart is =
    let has : HasEdge g x y = subst IsSome (sym is) refl in
    let weight : edge_weight g x y ≡ w = ap (λ o. unwrap_or o 0) is in (
      x ∷ y ∷ [],
      edge_is_least g x y (x ∷ y ∷ []) two apart (record { walk = (from, has, to); from = refl; to = refl }),
      record { dist = omega (arith, weight); hops = refl; next = refl },
    )

pub no_edge : (g : Graph) (x y : ℕ) → g.vertices ≡ 2 → x ≢ y → weight_at g x y ≡ None → HasNoWalk g x y
no_edge g x y two apart none q walk =
    let bad : false ≡ true = subst IsSome none (edge_is_least g x y q two apart walk).walk.walk.1 in
    cc
