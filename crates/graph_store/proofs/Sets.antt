-- One edge of a star is set: for `set_out`, `set_in` and `put_out` of `Star`.
use Rattle.std.specs.Prelude.{◌≡◌, ◌≢◌, ℕ, ◌<◌, ◌==◌, ◌||◌, nat_lt, nat_le, is_some, Bool, true, false, if◌then◌else◌, List, length, slice_set, Option, Some, None, Result, Ok, Err, refl}
use Rattle.std.proofs.Common.{sym, ◌∙◌, ap, subst, inl, inr, arith, get_or-set_other, length-set}
use Rattle.std.proofs.lemmas.Bool.{cases_lt}
use Rattle.std.proofs.lemmas.Bool.Decides.{nat_tests}
use Rattle.apsp_model.specs.declared.TheConstants.{MOST_WEIGHT}
use Rattle.apsp_model.specs.Star.{Star, IsStar}
use Rattle.graph_store.specs.declared.star.StarError.{StarError}
use Rattle.graph_store.specs.declared.star.StarError.TheVariants.{Vertex, SelfEdge, Repeat, Weight}
use Rattle.graph_store.specs.Rows.{cell_at, star_of_rows, IsStarRows}
use Rattle.graph_store.specs.Edges.{IsWeight, first_refusal, refusal_of, ok_unless, with_maybe_edge}
use Rattle.graph_store.proofs.StarRows.{out_weight-rows, in_weight-rows, with_out_edge, with_in_edge, is_star-with}

-- an edge that is not refused
record IsAccepted (n v u w x : ℕ) : Type 0 where
  weight : x ≡ w
  inside : u < n
  apart : u ≢ v
  range : IsWeight w

tests_passed : (a b c d : Bool) (w x : ℕ)
    → ◌≡◌ {A = Result ℕ StarError} (Ok x)
    (ok_unless w (if a then Some Vertex else
    (if b then Some SelfEdge else (if c then Some Repeat else (if d then Some Weight else None))))) → (a ≡ false)
    × (b ≡ false) × (d ≡ false) × (x ≡ w)
tests_passed true b c d w x e = cc
tests_passed false true c d w x e = cc
tests_passed false false true d w x e = cc
tests_passed false false false true w x e = cc
tests_passed false false false false w x e = (refl, refl, refl, cc)

accepted : (n v : ℕ) (present : Option ℕ) (u w x : ℕ)
    → ◌≡◌ {A = Result ℕ StarError} (Ok x) (ok_unless w (first_refusal n v present u w)) → IsAccepted n v u w x
accepted n v present u w x e =
    let tests = tests_passed (nat_le n u) (u == v) (is_some present) (nat_lt MOST_WEIGHT w) w x e in
    record {
      weight = tests.3;
      inside = below tests.0;
      apart = differ tests.1;
      range = in_range tests.2;
    }
  where
    below : nat_le n u ≡ false → u < n
    below t = grind (arith, nat_tests)

    differ : (u == v) ≡ false → u ≡ v → ⊥
    differ t h = grind (arith, nat_tests)

    in_range : nat_lt MOST_WEIGHT w ≡ false → IsWeight w
    in_range t = grind (arith, nat_tests)

-- what `new_weight` accepts, as a cell
pub record IsNewCell (n v u w x : ℕ) : Type 0 where
  pub weight : x ≡ w
  pub inside : u < n
  pub apart : u ≢ v
  pub range : (y : ℕ) → Some x ≡ Some y → IsWeight y

pub new_cell : (n m v : ℕ) (present : Option ℕ) (u w x : ℕ) → m ≡ n
    → ◌≡◌ {A = Result ℕ StarError} (Ok x) (ok_unless w (first_refusal m v present u w)) → IsNewCell n v u w x
new_cell n m v present u w x size e =
    let a = accepted m v present u w x e in
    record {
      weight = a.weight;
      inside = omega (arith, a.inside, size);
      apart = a.apart;
      range = λ y f. let same : w ≡ y = sym a.weight ∙ some_is x y f in subst IsWeight same a.range;
    }
  where
    some_is : (x y : ℕ) → Some x ≡ Some y → x ≡ y
    some_is x y f = cc

-- past the vertices, the test of the vertex comes first
same_refusal : (n v : ℕ) (p q : Option ℕ) (u w : ℕ) → (u < n → p ≡ q)
    → first_refusal n v p u w ≡ first_refusal n v q u w
same_refusal n v p q u w e = elim (cases_lt u n) [
  | inl inside ↦ ap (λ o. first_refusal n v o u w) (e inside)
  | inr beyond ↦ grind (arith, nat_tests)
]

module _ (n v : ℕ) (out into : List (Option ℕ)) (u : ℕ) (star : IsStarRows n v out into) where
  pub out_refusal : (w : ℕ) → first_refusal (length out) v (cell_at out u) u w ≡ refusal_of (star_of_rows n v out into)
      (v, u) u w
  out_refusal w =
      ap (λ k. first_refusal k v (cell_at out u) u w) star.out_size
      ∙ same_refusal n v _ _ u w (λ p. sym (out_weight-rows n v out into u p star))

  pub in_refusal : (w : ℕ) → first_refusal (length into) v (cell_at into u) u w ≡ refusal_of (star_of_rows n v out into)
      (u, v) u w
  in_refusal w =
      ap (λ k. first_refusal k v (cell_at into u) u w) star.into_size
      ∙ same_refusal n v _ _ u w (λ p. sym (in_weight-rows n v out into u p star))

  -- the same of a row that is read, and of the star that the rows are
  pub out_answer : (row : List (Option ℕ)) (t : Star) (w : ℕ) → row ≡ out → star_of_rows n v out into ≡ t
      → first_refusal (length row) v (cell_at row u) u w ≡ refusal_of t (t.vertex, u) u w
  out_answer row t w r e =
      ap (λ r. first_refusal (length r) v (cell_at r u) u w) r ∙ out_refusal w
      ∙ ap (λ t. refusal_of t (t.vertex, u) u w) e

  pub in_answer : (row : List (Option ℕ)) (t : Star) (w : ℕ) → row ≡ into → star_of_rows n v out into ≡ t
      → first_refusal (length row) v (cell_at row u) u w ≡ refusal_of t (u, t.vertex) u w
  in_answer row t w r e =
      ap (λ r. first_refusal (length r) v (cell_at r u) u w) r ∙ in_refusal w
      ∙ ap (λ t. refusal_of t (u, t.vertex) u w) e

  module _ (inside : u < n) (apart : u ≢ v) (o : Option ℕ) (range : (w : ℕ) → o ≡ Some w → IsWeight w) where
    pub out_edge_put : star_of_rows n v (slice_set out u o) into ≡ with_maybe_edge (star_of_rows n v out into) (v, u) o
    out_edge_put = with_out_edge n v out into u o star.out_size star.star.inside inside apart

    pub in_edge_put : star_of_rows n v out (slice_set into u o) ≡ with_maybe_edge (star_of_rows n v out into) (u, v) o
    in_edge_put = with_in_edge n v out into u o star.into_size star.star.inside inside

    pub out_row_put : IsStarRows n v (slice_set out u o) into
    out_row_put = record {
      out_size = length-set out u o ∙ star.out_size;
      into_size = star.into_size;
      no_loop = get_or-set_other out u v o None (λ e. apart (sym e)) ∙ star.no_loop;
      star = subst IsStar (sym out_edge_put)
          (is_star-with (star_of_rows n v out into) v u o star.star (inl refl)
          (λ w e. record { from = star.star.inside; to = inside; apart = λ e. apart (sym e); most = range w e }));
    }

    pub in_row_put : IsStarRows n v out (slice_set into u o)
    in_row_put = record {
      out_size = star.out_size;
      into_size = length-set into u o ∙ star.into_size;
      no_loop = star.no_loop;
      star = subst IsStar (sym in_edge_put)
          (is_star-with (star_of_rows n v out into) u v o star.star (inr refl)
          (λ w e. record { from = inside; to = star.star.inside; apart = apart; most = range w e }));
    }

-- an answer says whether something was refused, whatever it carries
pub also_ok : (o p : Option StarError) (w x : ℕ) → o ≡ p → ◌≡◌ {A = Result ℕ StarError} (Ok x) (ok_unless w o)
    → ◌≡◌ {A = Result (Unit {0}) StarError} (Ok tt) (ok_unless tt p)
also_ok o p w x same e = subst (λ r. ◌≡◌ {A = Result (Unit {0}) StarError} (Ok tt) (ok_unless tt r)) same (at o e)
  where
    at : (o : Option StarError) → ◌≡◌ {A = Result ℕ StarError} (Ok x) (ok_unless w o)
        → ◌≡◌ {A = Result (Unit {0}) StarError} (Ok tt) (ok_unless tt o)
    at None e = refl
    at (Some r) e = cc

pub also_err : (o p : Option StarError) (w : ℕ) (r : StarError) → o ≡ p
    → ◌≡◌ {A = Result ℕ StarError} (Err r) (ok_unless w o)
    → ◌≡◌ {A = Result (Unit {0}) StarError} (Err r) (ok_unless tt p)
also_err o p w r same e = subst (λ q. ◌≡◌ {A = Result (Unit {0}) StarError} (Err r) (ok_unless tt q)) same (at o e)
  where
    at : (o : Option StarError) → ◌≡◌ {A = Result ℕ StarError} (Err r) (ok_unless w o)
        → ◌≡◌ {A = Result (Unit {0}) StarError} (Err r) (ok_unless tt o)
    at None e = cc
    at (Some q) e = cc
