-- The star of an update is put in place and taken back, and what an update starts from: for `LocalEngine::star` and
-- `found`.
use Rattle.std.specs.Prelude.{◌≡◌, ℕ, Bool, true, false, if◌then◌else◌, List, Option, None, refl}
use Rattle.std.specs.FinMap as map
use Rattle.std.proofs.Common.{sym, ◌∙◌, ap}
use Rattle.apsp_model.specs.Graph.{Graph, weight_at}
use Rattle.apsp_model.specs.Star.{Star, star_of, star_at, touches}
use Rattle.apsp_model.specs.Paths.{KeptPath}
use Rattle.apsp_model.proofs.Stars.{weight-star_of, weight-star_at, same_graph}
use Rattle.shortest_math.specs.Shortest.{IsShortestBook}
use Rattle.local_engine.specs.Kept.{IsUpdateReady}

-- a star changes nothing away from its vertex
pub update_ready : (g : Graph) (s : Star) (paths : List KeptPath) → IsShortestBook g paths
    → IsUpdateReady s.vertex (star_of g s) paths
update_ready g s paths kept = record {
  before = g;
  same = record {
    vertices = refl;
    weights =
        λ a b apart. sym (weight-star_of g s a b ∙ at (touches s.vertex (a, b)) apart a b);
  };
  kept = kept;
}
  where
    at : (c : Bool) → c ≡ false → (a b : ℕ) → (if c then map.get s.edges (a, b) else weight_at g a b) ≡ weight_at g a b
    at c e a b = ap (λ d. if d then map.get s.edges (a, b) else weight_at g a b) e

-- the star that was there before takes it back
pub taken_back : (g : Graph) (s : Star) (v : ℕ) → v ≡ s.vertex → star_of (star_of g s) (star_at g v) ≡ g
taken_back g s v e = same_graph (star_of (star_of g s) (star_at g v)) g refl (λ a b.
    weight-star_of (star_of g s) (star_at g v) a b
    ∙ ap (λ o. if touches v (a, b) then o else weight_at (star_of g s) a b) (weight-star_at g v a b)
    ∙ ap (λ o. if touches v (a, b) then (if touches v (a, b) then weight_at g a b else None) else o)
    (weight-star_of g s a b ∙ ap (λ u. if touches u (a, b) then map.get s.edges (a, b) else weight_at g a b)
    (sym e))
    ∙ either (touches v (a, b)) (weight_at g a b) (map.get s.edges (a, b)))
  where
    either : (c : Bool) (o q : Option ℕ) → (if c then (if c then o else None) else (if c then q else o)) ≡ o
    either true o q = refl
    either false o q = refl
