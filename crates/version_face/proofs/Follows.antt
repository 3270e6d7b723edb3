-- Walks that are read off a table of next vertices.
use Rattle.std.specs.Prelude.{◌≡◌, ◌≢◌, ℕ, zero, suc, ◌+◌, ◌-◌, ◌*◌, ◌<◌, ◌≤◌, if◌then◌else◌, List, [], ◌∷◌, length, slice_index, Option, Some, None, unwrap_or, refl}
use Rattle.std.specs.List.{AllByRecursion}
use Rattle.std.proofs.Common.{sym, ◌∙◌, ap, subst, arith}
use Rattle.std.proofs.lemmas.Nat.{mul-add-lt}
use Rattle.std.proofs.lemmas.Bool.{ne_eqb}
use Rattle.apsp_model.specs.Graph.{Graph, IsGraph}
use Rattle.apsp_model.specs.Walk.{IsWalk}
use Rattle.apsp_model.specs.Least.{IsLeast, LeastIs}
use Rattle.apsp_model.proofs.Walks.{length_from_first}
use Rattle.apsp_model.proofs.Leasts.{least_unique, least_without_first, least_is_simple}
use Rattle.apsp_model.proofs.Simples.{simple_walk_is_short}
use Rattle.version_face.specs.declared.TheConstants.{NO_HOPS}
use Rattle.version_face.specs.Entries.{WalkIs, next_in, hops_in}
use Rattle.version_face.specs.Rows.{AreCells}
use Rattle.version_face.specs.Walks.{follow, walk_length, IsWalkLeft}

-- ---- one step of a walk that is left

pub record IsStep (left n : ℕ) (next : List ℕ) (x y : ℕ) : Type 0 where
  pub inside : x < n
  pub place : x * n + y < length next
  pub rest : IsWalkLeft (left - 1) n next (slice_index next (x * n + y)) y
  pub is : follow left n next x y ≡ x ∷ follow (left - 1) n next (slice_index next (x * n + y)) y

pub step : (left n : ℕ) (next : List ℕ) (x y : ℕ) → left ≢ 0 → IsWalkLeft left n next x y → IsStep left n next x y
step zero n next x y some h = absurd (some refl)
step (suc k) n next x y some h = record {
  inside = h.inside.0;
  place = omega (arith, mul-add-lt x n y n h.inside.0 h.to, h.size);
  rest = subst (λ j. IsWalkLeft j n next (slice_index next (x * n + y)) y) (sym less)
      (record { size = h.size; to = h.to; inside = h.inside.1 });
  is = ap (λ j. x ∷ follow j n next (slice_index next (x * n + y)) y) (sym less);
}
  where
    less : suc k - 1 ≡ k
    less = omega arith

-- the same, where the value is named
pub record IsNamedStep (left n : ℕ) (next : List ℕ) (x y : ℕ) (list : List ℕ) : Type 0 where
  pub place : x * n + y < length next
  pub rest : IsWalkLeft (left - 1) n next (slice_index next (x * n + y)) y
  pub is : list ≡ x ∷ follow (left - 1) n next (slice_index next (x * n + y)) y

pub named_step : (left n : ℕ) (next : List ℕ) (x y : ℕ) (list : List ℕ) → left ≢ 0 → IsWalkLeft left n next x y
    → follow left n next x y ≡ list → IsNamedStep left n next x y list
named_step left n next x y list some h e =
    let s = step left n next x y some h in record { place = s.place; rest = s.rest; is = sym e ∙ s.is }

-- ---- the least walk, read off the table

some_same : (x y : ℕ) → Some x ≡ Some y → x ≡ y
some_same x y e = cc

-- the vertices of the least walk of a pair, as many as it has
count_of : Option (List ℕ) → ℕ
count_of None = 0
count_of (Some p) = length p

same_option : (g : Graph) (x y : ℕ) (o : Option (List ℕ)) (p : List ℕ) → IsLeast g x y p → LeastIs g x y o → o ≡ Some p
same_option g x y None p h none = absurd (none p h.walk)
same_option g x y (Some q) p h least = ap Some (least_unique g x y q p least h)

rest_is_least : (g : Graph) (x y a z : ℕ) (q : List ℕ) → IsLeast g x y (a ∷ z ∷ q) → IsLeast g z y (z ∷ q)
rest_is_least g x y a z q h =
    let l = least_without_first g a (z ∷ q) (omega arith) (x, y, h) in
    let from : l.0 ≡ z = some_same l.0 z (sym l.2.walk.from) in
    let to : l.1 ≡ y = some_same l.1 y (sym l.2.walk.to ∙ h.walk.to) in
    subst (λ i. IsLeast g i y (z ∷ q)) from (subst (λ j. IsLeast g l.0 j (z ∷ q)) to l.2)

module _ (g : Graph) (dist hops next : List ℕ) (h : AreCells g (g.vertices * g.vertices) dist hops next) where
  reads : (x y : ℕ) (p : List ℕ) → y < g.vertices → IsLeast g x y p → follow (length p) g.vertices next x y ≡ p
  reads x y [] q least = absurd least.walk.walk
  reads x y (a ∷ []) q least = ap (λ i. i ∷ []) (some_same x a (sym least.walk.from))
  reads x y (a ∷ z ∷ p) q least =
      let here : a ≡ x = some_same a x least.walk.from in
      let inside : x < g.vertices = subst (λ i. i < g.vertices) here least.walk.walk.0 in
      let cell = h.cells x y q (mul-add-lt x g.vertices y g.vertices inside q) in
      let second : slice_index next (x * g.vertices + y) ≡ z =
      cell.next ∙ ap next_in (same_option g x y cell.walk (a ∷ z ∷ p) least cell.least) in
      ap (λ i. x ∷ follow (length (z ∷ p)) g.vertices next i y) second
      ∙ ap (λ r. x ∷ r) (reads z y (z ∷ p) q (rest_is_least g x y a z p least))
      ∙ ap (λ i. i ∷ z ∷ p) (sym here)

  all_inside : (p : List ℕ) → IsWalk g p → AllByRecursion (λ z. z < g.vertices) p
  all_inside [] w = tt
  all_inside (a ∷ []) w = (w, tt)
  all_inside (a ∷ z ∷ p) w = (w.0, all_inside (z ∷ p) w.2)

  length_is : IsGraph g → (x y k : ℕ) (o : Option (List ℕ)) → LeastIs g x y o → k ≡ hops_in o
      → walk_length k ≡ count_of o
  unfolding count_of
  length_is graph x y k None least e = ap walk_length e
  length_is graph x y k (Some p) least e =
      let short : length p ≤ g.vertices =
      simple_walk_is_short g p least.walk.walk (least_is_simple g p (x, y, least)) in
      let some : 0 < length p = length_from_first x p least.walk.from in
      let apart : k ≢ NO_HOPS = λ f. omega (arith, e, f, short, graph.most) in
      ap (λ b. if b then 0 else k + 1) (ne_eqb k NO_HOPS apart) ∙ count k (length p) e some
    where
      count : (k l : ℕ) → k ≡ l - 1 → 0 < l → k + 1 ≡ l
      count k l e s = omega arith

  pub record IsRead (x y left : ℕ) : Type 0 where
    pub fits : IsWalkLeft left g.vertices next x y
    pub walk : WalkIs g x y (follow left g.vertices next x y)

  follows : (x y : ℕ) (o : Option (List ℕ)) → y < g.vertices → LeastIs g x y o
      → follow (count_of o) g.vertices next x y ≡ unwrap_or o []
  unfolding count_of
  follows x y None q least = refl
  follows x y (Some p) q least = reads x y p q least

  inside_of : (x y : ℕ) (o : Option (List ℕ)) → LeastIs g x y o → AllByRecursion (λ z. z < g.vertices) (unwrap_or o [])
  inside_of x y None least = tt
  inside_of x y (Some p) least = all_inside p least.walk.walk

  pub read_walk : IsGraph g → (x y k : ℕ) → x < g.vertices → y < g.vertices → k ≡ slice_index hops (x * g.vertices + y)
      → IsRead x y (walk_length k)
  read_walk graph x y k p q e =
      let cell = h.cells x y q (mul-add-lt x g.vertices y g.vertices p q) in
      let size : walk_length k ≡ count_of cell.walk = length_is graph x y k cell.walk cell.least (e ∙ cell.hops) in
      let is : follow (walk_length k) g.vertices next x y ≡ unwrap_or cell.walk [] =
      ap (λ i. follow i g.vertices next x y) size ∙ follows x y cell.walk q cell.least in
      record {
        fits = record {
          size = h.next_size;
          to = q;
          inside = subst (AllByRecursion (λ z. z < g.vertices)) (sym is)
              (inside_of x y cell.walk cell.least);
        };
        walk = record { walk = cell.walk; least = cell.least; is = is };
      }

-- the same, as the call reads it
pub record IsWalkRead (n left : ℕ) (f : Graph) (next : List ℕ) (x y : ℕ) : Type 0 where
  pub fits : IsWalkLeft left n next x y
  pub walk : WalkIs f x y (follow left n next x y)

pub walk_at : (g f : Graph) (n left k x y : ℕ) (dist hops next xs : List ℕ) → g ≡ f → n ≡ g.vertices → xs ≡ next
    → IsGraph g → AreCells g (g.vertices * g.vertices) dist hops next → x < f.vertices → y < f.vertices
    → k ≡ slice_index hops (x * n + y) → left ≡ walk_length k → IsWalkRead n left f xs x y
walk_at g f n left k x y dist hops next xs same e d graph h p q r l =
    let a : x < g.vertices = omega (arith, p, ap (λ (j : Graph). j.vertices) same) in
    let b : y < g.vertices = omega (arith, q, ap (λ (j : Graph). j.vertices) same) in
    let read : IsRead g dist hops next h x y (walk_length k) =
    read_walk g dist hops next h graph x y k a b (r ∙ ap (λ j. slice_index hops (x * j + y)) e) in
    let made : IsWalkRead g.vertices (walk_length k) g next x y = record { fits = read.fits; walk = read.walk } in
    let P : Graph → Type 0 = λ j. IsWalkRead n left j xs x y in
    let Q : ℕ → Type 0 = λ j. IsWalkRead j left g xs x y in
    let R : ℕ → Type 0 = λ j. IsWalkRead g.vertices j g xs x y in
    let S : List ℕ → Type 0 = λ ys. IsWalkRead g.vertices (walk_length k) g ys x y in
    subst P same (subst Q (sym e) (subst R (sym l) (subst S (sym d) made)))
