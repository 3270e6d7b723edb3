-- A graph without edges has the walks of one vertex alone.
use Rattle.std.specs.Prelude.{◌≡◌, ◌≢◌, ℕ, ◌<◌, [], ◌∷◌, Some, None, IsSome, true, false, refl}
use Rattle.std.specs.FinMap as map
use Rattle.std.proofs.Common.{sym, ◌∙◌, ap, subst}
use Rattle.apsp_model.specs.Graph.{Graph, HasEdge, pair_cmp, weight_at, no_edges}
use Rattle.apsp_model.specs.Least.{IsLeast, HasNoWalk}
use Rattle.apsp_model.proofs.Leasts.{least_of_vertex}
use Rattle.version_face.specs.Entries.{EntryIs}

pub itself : (g : Graph) (x y : ℕ) → x < g.vertices → x ≡ y
    → EntryIs g x y (Some (record { dist = 0; hops = 0; next = x }))
itself g x y inside same = (
  x ∷ [],
  subst (λ z. IsLeast g x z (x ∷ [])) same (least_of_vertex g x inside),
  record
      { dist = refl; hops = refl; next = refl },
)

no_edge : (g : Graph) (x z : ℕ) → g ≡ no_edges g.vertices → HasEdge g x z → ⊥
no_edge g x z bare edge =
    let none : weight_at g x z ≡ None = ap (λ (h : Graph). weight_at h x z) bare ∙ map.get-empty pair_cmp (x, z) in
    let bad : false ≡ true = subst IsSome none edge in
    cc

some_same : (x y : ℕ) → Some x ≡ Some y → x ≡ y
some_same x y e = cc

pub nothing : (g : Graph) (x y : ℕ) → g ≡ no_edges g.vertices → x ≢ y → HasNoWalk g x y
nothing g x y bare apart [] walk = absurd walk.walk
nothing g x y bare apart (a ∷ []) walk = apart (some_same x y (sym walk.from ∙ walk.to))
nothing g x y bare apart (a ∷ z ∷ p) walk = no_edge g a z bare walk.walk.1
