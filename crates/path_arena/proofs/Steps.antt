-- Walks along the right parts of a path.
use Rattle.std.specs.Prelude.{◌≡◌, ◌≢◌, ℕ, ◌<◌, ◌⊎◌, Bool, true, false, not, eqb, List, [], ◌∷◌, length, Option, Some, None, refl}
use Rattle.std.specs.Ordering.{nat_cmp, ordering_then}
use Rattle.std.specs.Cmp.Lexicographic.{slice_cmp}
use Rattle.std.specs.declared.cmp.Ordering.{Ordering}
use Rattle.std.specs.declared.cmp.Ordering.TheVariants.{Less, Equal, Greater}
use Rattle.std.proofs.Common.{eq-eqb, sym, ◌∙◌, ap, subst, arith, inl, inr}
use Rattle.std.proofs.lemmas.Cmp.{nat_list_cmp_total, tied_itself}
use Rattle.std.proofs.lemmas.Bool.{eqb-true}
use Rattle.apsp_model.specs.Walk.{first}
use Rattle.apsp_model.specs.Part.{right_part}
use Rattle.apsp_model.proofs.Orders.{nat_cmp_same, same_from_nat_cmp}
use Rattle.path_arena.specs.Arena.{Path, Arena, path_at, vertex_of, IsLive, path_of, list_of, right_of, HasParts, IsSingle, IsArena}
use Rattle.path_arena.specs.Records.{IsRecordOf, rest_of, IsAtLive}
use Rattle.path_arena.specs.declared.arena.Record.{Record}
use Rattle.path_arena.proofs.Paths.{live_path, path_of_at}
use Rattle.path_arena.proofs.Calls.{right_of_record}

pub list_by_first : (p : List ℕ) (x : ℕ) → first p ≡ Some x → p ≡ x ∷ right_part p
list_by_first [] x e = cc
list_by_first (y ∷ p) x e = let same : y ≡ x = cc in ap (λ z. z ∷ p) same

-- a list is its first vertex and the list of the right part
pub record Headed (m : Arena) (id x : ℕ) : Type 0 where
  pub list : list_of m id ≡ x ∷ rest_of m (right_of m id)
  pub live : IsAtLive m (right_of m id)

pub headed : (m : Arena) (id x : ℕ) → IsArena m → IsLive m id → first (list_of m id) ≡ Some x → Headed m id x
headed m id x h live begins = by_kind (h.paths id p there.1).kind
  where
    there : (p : Path) × (path_at m id ≡ Some p)
    there = live_path m id live

    p : Path
    p = there.0

    of : path_of m id ≡ p
    of = path_of_at m id p there.1

    list_is : list_of m id ≡ p.list
    list_is = ap (λ q. q.list) of

    starts : first p.list ≡ Some x
    starts = ap first (sym list_is) ∙ begins

    by_kind : IsSingle m id p ⊎ HasParts m p → Headed m id x
    by_kind (inl one) =
        let right_is : right_of m id ≡ None = ap (λ q. q.right) (of ∙ one.3) in
        let tail : right_part p.list ≡ [] = ap (λ q. right_part q.list) one.3 in
        record {
          list = list_is ∙ list_by_first p.list x starts ∙ ap (λ t. x ∷ t) tail
              ∙ sym (ap (λ o. x ∷ rest_of m o) right_is);
          live = (let F : Option ℕ → Type 0 = λ o. IsAtLive m o in subst F (sym right_is) tt);
        }
    by_kind (inr parts) =
        let right_is : right_of m id ≡ Some parts.right = ap (λ q. q.right) of ∙ parts.right_is in
        record {
          list = list_is ∙ list_by_first p.list x starts ∙ ap (λ t. x ∷ t) (sym parts.right_list)
              ∙ sym (ap (λ o. x ∷ rest_of m o) right_is);
          live = (let F : Option ℕ → Type 0 = λ o. IsAtLive m o in subst F (sym right_is) parts.right_live);
        }

-- ---- two walks side by side

-- a step of both, where the paths are two that begin alike and are as long
pub record BothStep (m : Arena) (a b : ℕ) (left right : Record) : Type 0 where
  pub first : IsLive m left.right
  pub second : IsLive m right.right
  pub alike : length (list_of m left.right) ≡ length (list_of m right.right)
  pub same : slice_cmp nat_cmp (list_of m a) (list_of m b) ≡ slice_cmp nat_cmp (list_of m left.right)
      (list_of m right.right)
  pub shorter : length (list_of m left.right) < length (list_of m a)

pub both_step : (m : Arena) (a b : ℕ) → IsArena m → IsLive m a → IsLive m b
    → length (list_of m a) ≡ length (list_of m b) → a ≢ b → (left right : Record) → IsRecordOf (path_of m a) left
    → IsRecordOf (path_of m b) right → left.first ≡ right.first → BothStep m a b left right
both_step m a b h live_a live_b alike apart left right is_left is_right begin =
    by_kinds (h.paths a p at_a.1).kind (h.paths b q at_b.1).kind
  where
    at_a : (p : Path) × (path_at m a ≡ Some p)
    at_a = live_path m a live_a

    at_b : (q : Path) × (path_at m b ≡ Some q)
    at_b = live_path m b live_b

    p : Path
    p = at_a.0

    q : Path
    q = at_b.0

    of_a : path_of m a ≡ p
    of_a = path_of_at m a p at_a.1

    of_b : path_of m b ≡ q
    of_b = path_of_at m b q at_b.1

    by_kinds : IsSingle m a p ⊎ HasParts m p → IsSingle m b q ⊎ HasParts m q → BothStep m a b left right
    by_kinds (inl one) (inl other) =
        let starts_a : Some one.0 ≡ Some left.first =
        ap (λ r. first r.list) (sym one.3) ∙ ap (λ r. first r.list) (sym of_a) ∙ is_left.first in
        let starts_b : Some other.0 ≡ Some right.first =
        ap (λ r. first r.list) (sym other.3) ∙ ap (λ r. first r.list) (sym of_b) ∙ is_right.first in
        let same : one.0 ≡ other.0 = cc in
        absurd (apart (one.2 ∙ ap (vertex_of m) same ∙ sym other.2))
    by_kinds (inl one) (inr parts) =
        absurd (let long : 1 < length q.list = parts.with_edge in
        omega (arith, alike, ap (λ r. length r.list) of_a, ap (λ r. length r.list) of_b, ap (λ r. length r.list) one.3))
    by_kinds (inr parts) (inl one) =
        absurd (let long : 1 < length p.list = parts.with_edge in
        omega (arith, alike, ap (λ r. length r.list) of_a, ap (λ r. length r.list) of_b, ap (λ r. length r.list) one.3))
    by_kinds (inr parts_a) (inr parts_b) = record {
      first = subst (λ k. IsLive m k) to_a parts_a.right_live;
      second = subst (λ k. IsLive m k) to_b parts_b.right_live;
      alike = omega (arith, alike, ap length list_a, ap length list_b);
      same = (λ i. slice_cmp nat_cmp (list_a i) (list_b i))
          ∙ ap (λ x. slice_cmp nat_cmp (x ∷ list_of m left.right) (right.first ∷ list_of m right.right)) begin
          ∙ ap (λ o. ordering_then o (slice_cmp nat_cmp (list_of m left.right) (list_of m right.right)))
          (nat_cmp_same right.first);
      shorter = omega (arith, ap length list_a);
    }
      where
        to_a : parts_a.right ≡ left.right
        to_a = right_of_record m a left is_left
            (record { path = p; here = at_a.1; of = of_a; is = h.paths a p at_a.1; parts = parts_a })

        to_b : parts_b.right ≡ right.right
        to_b = right_of_record m b right is_right
            (record { path = q; here = at_b.1; of = of_b; is = h.paths b q at_b.1; parts = parts_b })

        list_a : list_of m a ≡ left.first ∷ list_of m left.right
        list_a = list_by_first (list_of m a) left.first is_left.first
            ∙ ap (λ t. left.first ∷ t) (ap (λ r. right_part r.list) of_a ∙ sym parts_a.right_list ∙ ap (list_of m) to_a)

        list_b : list_of m b ≡ right.first ∷ list_of m right.right
        list_b = list_by_first (list_of m b) right.first is_right.first
            ∙ ap (λ t. right.first ∷ t) (ap (λ r. right_part r.list) of_b ∙ sym parts_b.right_list
            ∙ ap (list_of m) to_b)

-- where the first vertices differ they decide
decided : (r s : Ordering) → (r ≡ Equal → ⊥) → ordering_then r s ≡ r
decided Less s h = refl
decided Equal s h = absurd (h refl)
decided Greater s h = refl

pub by_first : (p q : List ℕ) (x y : ℕ) → first p ≡ Some x → first q ≡ Some y → x ≢ y
    → slice_cmp nat_cmp p q ≡ nat_cmp x y
by_first p q x y begins_p begins_q apart =
    (λ i. slice_cmp nat_cmp (list_by_first p x begins_p i) (list_by_first q y begins_q i))
    ∙ decided (nat_cmp x y) (slice_cmp nat_cmp (right_part p) (right_part q)) (λ e. apart (same_from_nat_cmp x y e))

-- what `!=` of two numbers says
pub apart_from_ne : (a b : ℕ) (r : Bool) → r ≡ not (eqb a b) → r ≡ true → a ≢ b
apart_from_ne a b r is up same =
    let alike : eqb a b ≡ true = eq-eqb a b same in let opposite : not (eqb a b) ≡ false = ap not alike in
    let two : true ≡ false = sym up ∙ is ∙ opposite in cc

pub same_from_ne : (a b : ℕ) (r : Bool) → r ≡ not (eqb a b) → r ≡ false → a ≡ b
same_from_ne a b r is down = eqb-true a b (turned (eqb a b) (sym is ∙ down))
  where
    turned : (t : Bool) → not t ≡ false → t ≡ true
    turned true e = refl
    turned false e = cc

-- equal lists tie
pub slice_cmp_same : (p : List ℕ) → slice_cmp nat_cmp p p ≡ Equal
slice_cmp_same p = tied_itself nat_list_cmp_total p

-- ---- an iterator over the vertices

-- what is left where the next id is live
pub rest_step : (m : Arena) (seen : List ℕ) (rest : Option ℕ) (id x : ℕ) (after : Option ℕ) → IsArena m
    → IsAtLive m rest → rest_of m rest ≡ seen → rest ≡ Some id → first (list_of m id) ≡ Some x → after ≡ right_of m id
    → (seen ≡ x ∷ rest_of m after) × IsAtLive m after
rest_step m seen rest id x after h live is here begins next =
    let at_id : IsLive m id = (let F : Option ℕ → Type 0 = λ o. IsAtLive m o in subst F here live) in
    let step : Headed m id x = headed m id x h at_id begins in (
      sym is ∙ ap (rest_of m) here ∙ step.list
          ∙ ap (λ o. x ∷ rest_of m o) (sym next),
      (let F : Option ℕ → Type 0 = λ o. IsAtLive m o in subst F (sym next) step.live),
    )
