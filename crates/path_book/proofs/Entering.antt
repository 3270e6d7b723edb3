-- A new id is known to the lists, or known no more.
use Rattle.std.specs.Prelude.{◌≡◌, ◌≢◌, ℕ, ◌⊎◌, Bool, true, false, ◌==◌, List, Option, Some, None, is_some, unwrap_or, refl, Contains}
use Rattle.std.specs.FinMap as map
use Rattle.std.proofs.Common.{sym, ◌∙◌, ap, subst, inl, inr}
use Rattle.std.proofs.lemmas.Bool.{cases_eq}
use Rattle.std.proofs.lemmas.Cmp.{nat_cmp_total}
use Rattle.path_arena.proofs.Keys.{get_put, get_put_other}
use Rattle.extension_lists.specs.Known.{Sides, Known, no_sides, IsKnown, sides_at, StandsOnlyAt, IsLeft, IsDropped}
use Rattle.path_book.specs.Admitted.{StandsNowhere}
use Rattle.path_book.proofs.Sides.{not_known, sides_other, known_put}

module _ (m : Known) (id : ℕ) (new : IsKnown m id → ⊥) where
  pub entered_itself : IsKnown (map.insert m id no_sides) id
  entered_itself = (known_put m id no_sides id).1 (inr refl)

  pub entered_still : (k : ℕ) → IsKnown m k → IsKnown (map.insert m id no_sides) k
  entered_still k h = (known_put m id no_sides k).1 (inl h)

  pub sides_of_new : sides_at (map.insert m id no_sides) id ≡ no_sides
  sides_of_new = ap (λ o. unwrap_or o no_sides) (get_put m id no_sides)

  -- the new id has empty lists, and before it was known it had none
  pub sides_entered : (k : ℕ) → sides_at (map.insert m id no_sides) k ≡ sides_at m k
  sides_entered k = elim (cases_eq k id) [
    | inl same ↦ ap (sides_at (map.insert m id no_sides)) same ∙ sides_of_new
        ∙ sym (ap (sides_at m) same ∙ ap (λ o. unwrap_or o no_sides) (not_known m id new))
    | inr apart ↦ sides_other m id no_sides k apart
  ]

  -- the new id stands nowhere yet
  pub stands_nowhere : StandsNowhere m id → StandsNowhere (map.insert m id no_sides) id
  stands_nowhere h = record {
    left = λ k c. h.left k (subst (λ (s : Sides). Contains s.left id) (sides_entered k) c);
    right = λ k c. h.right k (subst (λ (s : Sides). Contains s.right id) (sides_entered k) c);
    left_star = λ k c. h.left_star k (subst (λ (s : Sides). Contains s.left_star id) (sides_entered k) c);
    right_star = λ k c. h.right_star k (subst (λ (s : Sides). Contains s.right_star id) (sides_entered k) c);
  }

  pub stands_only : (l r : ℕ) → StandsNowhere m id → StandsOnlyAt (map.insert m id no_sides) id l r
  stands_only l r h =
      let gone : StandsNowhere (map.insert m id no_sides) id = stands_nowhere h in
      record {
        left = λ k c. absurd (gone.left k c);
        right = λ k c. absurd (gone.right k c);
        left_star = λ k c. absurd (gone.left_star k c);
        right_star = λ k c. absurd (gone.right_star k c);
      }

  -- a list without the id stays as it is
  stays : (here : Bool) (xs ys : List ℕ) → IsLeft here id xs ys → (Contains xs id → ⊥) → ys ≡ xs
  stays true xs ys is gone = is.absent gone
  stays false xs ys is gone = is

  -- what is left where the new id is dropped again
  pub dropped_again : (l r : ℕ) (after : Known) → StandsNowhere m id → IsDropped (map.insert m id no_sides) after id l r
      → after ≡ m
  dropped_again l r after h d =
      map.same_map nat_cmp_total map.nat_cmp-IsAntisymmetric after m (λ q. at_key q (cases_eq q id))
    where
      gone : StandsNowhere (map.insert m id no_sides) id
      gone = stands_nowhere h

      both : (o p : Option Sides) → is_some o ≡ is_some p → unwrap_or o no_sides ≡ unwrap_or p no_sides → o ≡ p
      both None None e f = refl
      both None (Some s) e f = cc
      both (Some s) None e f = cc
      both (Some s) (Some t) e f = ap Some f

      at_key : (q : ℕ) → (q ≡ id) ⊎ (q ≢ id) → map.get after q ≡ map.get m q
      at_key q (inl same) = ap (map.get after) same ∙ d.forgotten ∙ sym (not_known m id new) ∙ ap (map.get m) (sym same)
      at_key q (inr apart) =
          let left = stays (q == r) _ _ (d.left q apart) (gone.left q) in
          let right = stays (q == l) _ _ (d.right q apart) (gone.right q) in
          let left_star = stays (q == r) _ _ (d.left_star q apart) (gone.left_star q) in
          let right_star = stays (q == l) _ _ (d.right_star q apart) (gone.right_star q) in
          let sides : sides_at after q ≡ sides_at (map.insert m id no_sides) q =
          (λ i. record { left = left i; right = right i; left_star = left_star i; right_star = right_star i }) in
          both (map.get after q) (map.get m q) (d.known q apart ∙ ap is_some (get_put_other m id no_sides q apart))
          (sides ∙ sides_entered q)
