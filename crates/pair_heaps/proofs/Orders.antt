-- The order of the paths of ids.
use Rattle.std.specs.Prelude.{◌≡◌, ℕ, ◌==◌, true, false, refl}
use Rattle.std.specs.Ordering.{ordering_reverse, ordering_index}
use Rattle.std.specs.Cmp.{IsTotalOrder}
use Rattle.std.specs.declared.cmp.Ordering.{Ordering}
use Rattle.std.specs.declared.cmp.Ordering.TheVariants.{Less, Equal, Greater}
use Rattle.std.proofs.Common.{◌∙◌, ap}
use Rattle.std.proofs.lemmas.Bool.{false≢true, true≢false}
use Rattle.std.proofs.lemmas.Cmp.{nat_cmp_total, nat_list_cmp_total, on_total, then_total, tied_itself}
use Rattle.apsp_model.specs.Walk.{hops_of}
use Rattle.path_arena.specs.Arena.{Arena, weight_of_id, list_of, id_cmp}
use Rattle.pair_heaps.specs.Heaps.{IsIdBelow}

pub id_cmp_total : (a : Arena) → IsTotalOrder (id_cmp a)
id_cmp_total a =
    then_total (on_total (weight_of_id a) nat_cmp_total)
    (then_total (on_total (λ id. hops_of (list_of a id)) nat_cmp_total) (on_total (list_of a) nat_list_cmp_total))

pub not_below_itself : (a : Arena) (p : ℕ) → IsIdBelow a p p → ⊥
not_below_itself a p h = let e : id_cmp a p p ≡ Equal = tied_itself (id_cmp_total a) p in cc

pub below_chain : (a : Arena) (p q r : ℕ) → IsIdBelow a p q → IsIdBelow a q r → IsIdBelow a p r
below_chain a p q r h k = (id_cmp_total a).trans p q r h k

-- p is not above m, which is below id
pub below_from : (a : Arena) (p m id : ℕ) → (IsIdBelow a m p → ⊥) → IsIdBelow a m id → IsIdBelow a p id
below_from a p m id upto below = go (id_cmp a p id) refl
  where
    go : (o : Ordering) → id_cmp a p id ≡ o → IsIdBelow a p id
    go Less e = e
    go Equal e =
        let turned : id_cmp a id p ≡ Equal = (id_cmp_total a).antisymm id p ∙ ap ordering_reverse e in
        absurd (upto ((id_cmp_total a).antisymm m p
        ∙ ap ordering_reverse ((id_cmp_total a).congr p id m e ∙ (id_cmp_total a).antisymm id m
        ∙ ap ordering_reverse below)))
    go Greater e =
        absurd (upto ((id_cmp_total a).trans m id p below ((id_cmp_total a).antisymm id p ∙ ap ordering_reverse e)))

-- m, which is not below id, is not above p
pub not_below_from : (a : Arena) (p m id : ℕ) → (IsIdBelow a p m → ⊥) → (IsIdBelow a m id → ⊥) → IsIdBelow a p id → ⊥
not_below_from a p m id upto not_below below = not_below (below_from a m p id upto below)

-- what a comparison with Less tells
pub less_from_test : (o : Ordering) → (ordering_index o == 0) ≡ true → o ≡ Less
less_from_test Less e = refl
less_from_test Equal e = absurd (false≢true e)
less_from_test Greater e = absurd (false≢true e)

pub not_less_from_test : (o : Ordering) → (ordering_index o == 0) ≡ false → o ≡ Less → ⊥
not_less_from_test Less e less = true≢false e
not_less_from_test Equal e less = cc
not_less_from_test Greater e less = cc
