-- Pairs by their place in the rows, and which walks pass a vertex.
use Rattle.std.specs.Prelude.{◌≡◌, ◌≢◌, ℕ, ◌+◌, ◌-◌, ◌*◌, ◌/◌, ◌%◌, ◌<◌, ◌↔◌, Bool, IsTrue, List, [], Contains, Option, Some, None, unwrap_or, filter_map}
use Rattle.std.specs.List.{AllZip, range_with_len}
use Rattle.std.proofs.Common.{sym, ◌∙◌, ap, subst, arith}
use Rattle.std.proofs.lemmas.Nat.{mul-add-lt, same_from_place}
use Rattle.std.proofs.Math.Nat.{mod-lt, div-lt_iff_lt-mul, mod-eq-sub-div-mul, div-mul-le_self}
use Rattle.rayon.specs.Numbers.{nat_range}
use Rattle.rayon.proofs.ListFacts.{AllZip-weaken}
use Rattle.apsp_model.specs.Graph.{Graph}
use Rattle.apsp_model.specs.Least.{LeastIs}
use Rattle.apsp_model.proofs.Members.{in_nil}
use Rattle.apsp_model.proofs.Leasts.{least_unique}
use Rattle.version_face.specs.Entries.{WalkIs}
use Rattle.path_reports.specs.Reports.{IsCentral, IsCentre, IsPassing, ArePassing, row_place}
use Rattle.path_reports.specs.Spans.{IsPick, IsCentralPick, IsPassingPick}
use Rattle.path_reports.specs.declared.reports.Pair.{Pair}
use Rattle.path_reports.proofs.Reaches.{walk_start_inside, walk_end_inside}
use Rattle.path_reports.proofs.Picks.{ArePicked, picks}

-- ---- a vertex of a walk

pub passing_iff : (g : Graph) (v x y : ℕ) (list : List ℕ) (b : Bool) → x ≢ y → x ≢ v → y ≢ v → WalkIs g x y list
    → (IsTrue b ↔ Contains list v) → IsTrue b ↔ IsPassing g v x y
passing_iff g v x y list b p q r walk found = go walk.walk walk.least walk.is
  where
    go : (o : Option (List ℕ)) → LeastIs g x y o → list ≡ unwrap_or o [] → IsTrue b ↔ IsPassing g v x y
    go None none is = (
      λ t. absurd (in_nil v (subst (λ l. Contains l v) is (found.0 t))),
      λ h. absurd (none h.3.0 h.3.1.walk),
    )
    go (Some l) least is = (
      λ t. (p, q, r, (l, least, subst (λ k. Contains k v) is (found.0 t))),
      λ h. found.1 (subst (λ k. Contains k v) (least_unique g x y h.3.0 l h.3.1 least ∙ sym is) h.3.2),
    )

-- ---- places

pub column_inside : (n k : ℕ) → 0 < n → k % n < n
column_inside n k some = mod-lt k some

pub row_inside : (n k : ℕ) → 0 < n → k < n * n → k / n < n
row_inside n k some below = (div-lt_iff_lt-mul some).1 below

pub place_of_both : (n k : ℕ) → k / n * n + k % n ≡ k
place_of_both n k = omega (arith, mod-eq-sub-div-mul k n, div-mul-le_self k n)

pair_same : (p q : Pair) → p.x ≡ q.x → p.y ≡ q.y → p ≡ q
pair_same p q a b = λ i. record { x = a i; y = b i }

passing_inside : (g : Graph) (v x y : ℕ) → IsPassing g v x y → (x < g.vertices) × (y < g.vertices)
passing_inside g v x y h = (walk_start_inside g x y h.3.0 h.3.1.walk, walk_end_inside g x y h.3.0 h.3.1.walk)

module _ (g : Graph) (v : ℕ) (some : 0 < g.vertices) where
  Passes : Pair → Type 0
  Passes p = IsPassing g v p.x p.y

  one_pair : (p q : Pair) → Passes p → Passes q → row_place g.vertices p ≡ row_place g.vertices q → p ≡ q
  unfolding Passes
  one_pair p q h k e =
      let same =
      same_from_place p.x p.y q.x q.y g.vertices (passing_inside g v p.x p.y h).1 (passing_inside g v q.x q.y k).1 e
      in
      pair_same p q same.0 same.1

  pick_from : (k : ℕ) (o : Option Pair) → IsPassingPick g v k o → IsPick (row_place g.vertices) Passes k o
  unfolding Passes
  pick_from k None none = λ p here h.
      let same =
      same_from_place p.x p.y (k / g.vertices) (k % g.vertices) g.vertices (passing_inside g v p.x p.y h).1
      (column_inside g.vertices k some) (here ∙ sym (place_of_both g.vertices k)) in
      none (subst (λ y. IsPassing g v (k / g.vertices) y) same.1 (subst (λ x. IsPassing g v x p.y) same.0 h))
  pick_from k (Some p) h = (
    ap (λ x. x * g.vertices + p.y) h.0 ∙ ap (λ y. k / g.vertices * g.vertices + y) h.1
        ∙ place_of_both g.vertices k,
    h.2,
  )

  pub passing_found : (m : ℕ) (ks : List ℕ) (os : List (Option Pair)) → m ≡ g.vertices * g.vertices → ks ≡ nat_range 0 m
      → AllZip (IsPassingPick g v) ks os → ArePassing g v (filter_map (λ o. o) os)
  unfolding Passes
  passing_found m ks os size is h =
      let whole : m - 0 ≡ g.vertices * g.vertices = omega (arith, size) in
      let all : AllZip (IsPassingPick g v) (range_with_len 0 (g.vertices * g.vertices)) os =
      subst (λ l. AllZip (IsPassingPick g v) l os) (is ∙ ap (range_with_len 0) whole) h in
      let found : ArePicked (row_place g.vertices) Passes one_pair 0 (g.vertices * g.vertices) (filter_map (λ o. o) os)
      = picks (row_place g.vertices) Passes one_pair 0 (g.vertices * g.vertices) os
      (AllZip-weaken (IsPassingPick g v) (IsPick (row_place g.vertices) Passes) pick_from
      (range_with_len 0 (g.vertices * g.vertices)) os all) in
      record {
        rising = found.rising;
        exact = λ p. (
          λ c. ((found.exact p).0 c).2,
          λ r. let inside =
              passing_inside g v p.x p.y r in
              (found.exact p).1 (
                omega arith,
                omega (arith, mul-add-lt p.x g.vertices p.y g.vertices inside.0 inside.1),
                r,
              ),
        );
      }

pub centre_found : (g : Graph) (radius : Option ℕ) (n : ℕ) (ks : List ℕ) (os : List (Option ℕ)) → n ≡ g.vertices
    → ks ≡ nat_range 0 n → AllZip (IsCentralPick g radius) ks os → IsCentre g radius (filter_map (λ o. o) os)
centre_found g radius n ks os size is h =
    let whole : n - 0 ≡ g.vertices = omega (arith, size) in
    let all : AllZip (IsCentralPick g radius) (range_with_len 0 g.vertices) os =
    subst (λ l. AllZip (IsCentralPick g radius) l os) (is ∙ ap (range_with_len 0) whole) h in
    let one : (a b : ℕ) → IsCentral g radius a → IsCentral g radius b → a ≡ b → a ≡ b = λ a b p q e. e in
    let found : ArePicked (λ x. x) (IsCentral g radius) one 0 g.vertices (filter_map (λ o. o) os) =
    picks (λ x. x) (IsCentral g radius) one 0 g.vertices os all in
    record {
      rising = found.rising;
      exact = λ x. (
        λ c. ((found.exact x).0 c).2,
        λ r. (found.exact x).1 (omega arith, omega (arith, r.0.0), r),
      );
    }
