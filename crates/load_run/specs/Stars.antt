-- Stars that are drawn in part. No public clause cites this module.
use Rattle.std.specs.Prelude.{◌≡◌, ℕ, ◌+◌, ◌-◌, Bool, not, ◌==◌, ◌&&◌, nat_lt, if◌then◌else◌, Option, None}
use Rattle.std.specs.FinMap as map
use Rattle.apsp_model.specs.Star.{Star}
use Rattle.load_run.specs.Draws.{drawn, drawn_weight, others_below}

-- a vertex below u, other than v
abbrev pub is_done : ℕ → ℕ → ℕ → Bool
is_done v u a = nat_lt a u && not (a == v)

-- the edges from v to the vertices below u are drawn behind s, and there are no others
abbrev pub out_below : ℕ → ℕ → ℕ → ℕ → ℕ → Option ℕ
out_below v s u a b = if a == v && is_done v u b then drawn_weight (drawn s (1 + others_below v b)) else None

pub record HasOut (n v s u : ℕ) (star : Star) (last : ℕ) : Type 0 where
  pub vertices : star.vertices ≡ n
  pub vertex : star.vertex ≡ v
  pub place : last ≡ drawn s (others_below v u)
  pub edges : (a b : ℕ) → map.get star.edges (a, b) ≡ out_below v s u a b

-- behind all edges from v, those from the vertices below u are drawn too
pub record HasBoth (n v s u : ℕ) (star : Star) (last : ℕ) : Type 0 where
  pub vertices : star.vertices ≡ n
  pub vertex : star.vertex ≡ v
  pub place : last ≡ drawn s ((n - 1) + others_below v u)
  pub edges : (a b : ℕ) → map.get star.edges (a, b) ≡
      (if b == v && is_done v u a then drawn_weight (drawn s (1 + ((n - 1) + others_below v a)))
      else out_below v s n a b)
