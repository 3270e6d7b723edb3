-- Which shape a head has.
use Rattle.std.specs.Prelude.{◌≡◌, ℕ, ◌<◌, ◌≤◌, cond, List}
use Rattle.std.proofs.Common.{sym, ◌∙◌, ap, subst, arith}
use Rattle.std.proofs.lemmas.Bool.{lt-ltb, le-ltb}
use Rattle.id_pool.specs.declared.head.Head.{Head}
use Rattle.id_pool.specs.Heads.{Shape, Near, shape, far_of, IsPlacedInPool, IsMoved, held_of, ids_of}
use Rattle.id_pool.specs.Lists.{Held}

pub near_is : (h : Head) → h.len ≤ 3 → shape h ≡ Near h.len h.mark h.few
near_is h few = ap (λ b. cond b (far_of h) (Near h.len h.mark h.few)) (le-ltb 3 h.len few)

pub far_is : (h : Head) → 3 < h.len → shape h ≡ far_of h
far_is h many = ap (λ b. cond b (far_of h) (Near h.len h.mark h.few)) (lt-ltb 3 h.len many)

pub as_near : (ids free : List ℕ) (h : Head) → h.len ≤ 3 → IsPlacedInPool ids free (shape h)
    → IsPlacedInPool ids free (Near h.len h.mark h.few)
as_near ids free h few placed = subst (λ (s : Shape). IsPlacedInPool ids free s) (near_is h few) placed

pub as_far : (ids free : List ℕ) (h : Head) → 3 < h.len → IsPlacedInPool ids free (shape h)
    → IsPlacedInPool ids free (far_of h)
as_far ids free h many placed = subst (λ (s : Shape). IsPlacedInPool ids free s) (far_is h many) placed

-- a move between two shapes is one between the heads that have them
pub moved_as : (ids free ids' free' : List ℕ) (h h' : Head) (s s' : Shape) → shape h ≡ s → shape h' ≡ s'
    → IsMoved ids free s ids' free' s' → IsMoved ids free (shape h) ids' free' (shape h')
moved_as ids free ids' free' h h' s s' is is' moved =
    subst (λ (t : Shape). IsMoved ids free t ids' free' (shape h')) (sym is)
    (subst (λ (t : Shape). IsMoved ids free s ids' free' t) (sym is') moved)

pub ids_as : (ids ids' : List ℕ) (h h' : Head) (s s' : Shape) (f : List ℕ → List ℕ) → shape h ≡ s → shape h' ≡ s'
    → ids_of ids' s' ≡ f (ids_of ids s) → ids_of ids' (shape h') ≡ f (ids_of ids (shape h))
ids_as ids ids' h h' s s' f is is' same = ap (ids_of ids') is' ∙ same ∙ sym (ap (λ t. f (ids_of ids t)) is)

pub held_as : (ids ids' : List ℕ) (h h' : Head) (s s' : Shape) (R : Held → Held → Type 0) → shape h ≡ s → shape h' ≡ s'
    → R (held_of ids s) (held_of ids' s') → R (held_of ids (shape h)) (held_of ids' (shape h'))
held_as ids ids' h h' s s' R is is' holds =
    subst (λ (t : Shape). R (held_of ids t) (held_of ids' (shape h'))) (sym is)
    (subst (λ (t : Shape). R (held_of ids s) (held_of ids' t)) (sym is') holds)

pub near_three : (h : Head) → h.len ≡ 3 → shape h ≡ Near 3 h.mark h.few
near_three h three = near_is h (omega arith) ∙ ap (λ n. Near n h.mark h.few) three
