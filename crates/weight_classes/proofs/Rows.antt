-- For choose and class_at: places in rows, by first and then by last vertex.
use Rattle.std.specs.Prelude.{◌≡◌, ℕ, ◌+◌, ◌*◌, ◌<◌, List, [], ◌∷◌, Option, Some, None, IsSome, unwrap_or, refl, Contains, length}
use Rattle.std.specs.Ordering.{nat_cmp, ordering_then}
use Rattle.std.specs.declared.cmp.Ordering.TheVariants.{Less}
use Rattle.std.proofs.Common.{sym, ◌∙◌, ap, arith, inl, inr, get_or, add-one}
use Rattle.std.proofs.lemmas.Bool.{cases_lt, false≢true}
use Rattle.std.proofs.lemmas.Bool.Decides.{nat_tests}
use Rattle.std.proofs.lemmas.Cmp.{nat_cmp_total, tied_itself}
use Rattle.std.proofs.lemmas.Nat.{mul-add-lt}
use Rattle.std.proofs.lemmas.List.Elements.{Contains-append_right}
use Rattle.apsp_model.specs.Walk.{first, last}
use Rattle.path_arena.specs.Arena.{Arena, Path, IsArena, IsLive, path_at, list_of, no_path}
use Rattle.weight_classes.specs.Classes.{first_of, last_of, SamePair, InOrder}
use Rattle.weight_classes.specs.Choice.{pair_place, EndsAreVertices, AreRising}

one_row : (n x y u v : ℕ) → y < n → v < n → x * n + y ≡ u * n + v → x < u → ⊥
one_row n x y u v y_in v_in e less = omega (arith, mul-add-lt x n y u less y_in)

pub one_place : (n x y u v : ℕ) → y < n → v < n → x * n + y ≡ u * n + v → (x ≡ u) × (y ≡ v)
one_place n x y u v y_in v_in e = elim (cases_lt x u) [
  | inl less ↦ absurd (one_row n x y u v y_in v_in e less)
  | inr upto ↦ elim (cases_lt u x) [
    | inl more ↦ absurd (one_row n u v x y v_in y_in (sym e) more)
    | inr least ↦ let rows : x ≡ u = omega arith in (rows, omega (arith, e, ap (λ w. w * n) rows))
  ]
]

numbers_less : (x u : ℕ) → x < u → nat_cmp x u ≡ Less
numbers_less x u less = grind (arith, nat_tests)

-- a lower place comes first
pub pair_before : (n x y u v : ℕ) → y < n → v < n → x * n + y < u * n + v
    → ordering_then (nat_cmp x u) (nat_cmp y v) ≡ Less
pair_before n x y u v y_in v_in below = elim (cases_lt x u) [
  | inl less ↦ ap (λ o. ordering_then o (nat_cmp y v)) (numbers_less x u less)
  | inr upto ↦ elim (cases_lt u x) [
    | inl more ↦ absurd (omega (arith, mul-add-lt u n v x more v_in))
    | inr least ↦
        let rows : x ≡ u = omega arith in
        let columns : y < v = omega (arith, ap (λ w. w * n) rows) in
        ap (λ w. ordering_then (nat_cmp w u) (nat_cmp y v)) rows
        ∙ ap (λ o. ordering_then o (nat_cmp y v)) (tied_itself nat_cmp_total u) ∙ numbers_less y v columns
  ]
]

pub place_below : (n x y : ℕ) → x < n → y < n → x * n + y < n * n
place_below n x y x_in y_in = omega (arith, mul-add-lt x n y n x_in y_in)

-- ---- the ends of a live path

first_in : (p : List ℕ) → 0 < length p → Contains p (unwrap_or (first p) 0)
first_in [] some = absurd (omega arith)
first_in (z ∷ p) some = (0, omega arith, refl)

last_in : (p : List ℕ) → 0 < length p → Contains p (unwrap_or (last p) 0)
last_in [] some = absurd (omega arith)
last_in (z ∷ []) some = (0, omega arith, refl)
last_in (z ∷ u ∷ p) some =
    let c : Contains (u ∷ p) (unwrap_or (last (u ∷ p)) 0) = last_in (u ∷ p) (omega arith) in (
      c.0 + 1,
      let l : c.0 < length (u ∷ p) = c.1 in
          omega arith,
      ap (λ k. get_or (z ∷ u ∷ p) k (unwrap_or (last (u ∷ p)) 0)) (add-one c.0) ∙ c.2,
    )

-- a part of a live path is a vertex
vertex_inside : (a : Arena) (id v : ℕ) → IsArena a → IsLive a id → Contains (list_of a id) v → v < a.vertices
vertex_inside a id v lawful live c = go (path_at a id) refl live c
  where
    go : (o : Option Path) → path_at a id ≡ o → IsSome o → Contains (unwrap_or o no_path).list v → v < a.vertices
    go None e live c = absurd (false≢true live)
    go (Some p) e live c = (lawful.paths id p e).inside v c

some_by_first : (p : List ℕ) (x : ℕ) → first p ≡ Some x → 0 < length p
some_by_first [] x e = cc
some_by_first (z ∷ p) x e = omega arith

pub ends_of_live : (a : Arena) (id x : ℕ) → IsArena a → IsLive a id → first (list_of a id) ≡ Some x
    → EndsAreVertices a id
ends_of_live a id x lawful live e = (
  vertex_inside a id (first_of a id) lawful live (first_in (list_of a id) (some_by_first (list_of a id) x e)),
  vertex_inside a id (last_of a id) lawful live (last_in (list_of a id) (some_by_first (list_of a id) x e)),
)

pub place_inside : (a : Arena) (id : ℕ) → EndsAreVertices a id → pair_place a id < a.vertices * a.vertices
place_inside a id ends = place_below a.vertices (first_of a id) (last_of a id) ends.0 ends.1

-- ids of one place have one pair
pub same_pair : (a : Arena) (p q : ℕ) → EndsAreVertices a p → EndsAreVertices a q → pair_place a p ≡ pair_place a q
    → SamePair a p q
same_pair a p q ends_p ends_q same =
    one_place a.vertices (first_of a p) (last_of a p) (first_of a q) (last_of a q) ends_p.1 ends_q.1 same

pub in_order : (a : Arena) (ids : List ℕ) → ((q : ℕ) → Contains ids q → EndsAreVertices a q) → AreRising a ids
    → InOrder a ids
in_order a [] ends h = tt
in_order a (id ∷ ids) ends h = (
  λ q c. pair_before a.vertices (first_of a id) (last_of a id) (first_of a q) (last_of a q)
      (ends id (0, omega arith, refl)).1 (ends q (Contains-append_right (id ∷ []) ids q c)).1 (h.0 q c),
  in_order a ids (λ q c. ends q (Contains-append_right (id ∷ []) ids q c)) h.1,
)

-- ---- the key of an id

pub key_is : (a : Arena) (id x y : ℕ) → first (list_of a id) ≡ Some x → last (list_of a id) ≡ Some y
    → (first_of a id ≡ x) × (last_of a id ≡ y)
key_is a id x y e f = (ap (λ o. unwrap_or o 0) e, ap (λ o. unwrap_or o 0) f)
