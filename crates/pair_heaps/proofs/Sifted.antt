-- What an exchange of an entry with its parent or its lesser child leaves.
use Rattle.std.specs.Prelude.{◌≡◌, ◌≢◌, ℕ, ◌+◌, ◌-◌, ◌*◌, ◌<◌, ◌≤◌, List, length, refl}
use Rattle.std.specs.List.{swap, swap_remove}
use Rattle.std.specs.Prelude.{Contains, take, zero, suc, Option, Some, None, IfSome, slice_get}
use Rattle.std.proofs.lemmas.Option.{slice_get_within, get_or_from_slice_get}
use Rattle.std.proofs.Common.{sym, ◌∙◌, ap, subst, arith, inl, inr, get_or, set, length-set, get_or-set_other}
use Rattle.std.proofs.lemmas.Bool.{cases_eq}
use Rattle.std.proofs.lemmas.List.Edits.{Swapped, swapped_from_swap, length-swap}
use Rattle.std.specs.Prelude.{◌/◌, ◌%◌}
use Rattle.std.specs.List.Sorted.{IsPermutation}
use Rattle.std.proofs.lemmas.List.Sorted.{IsPermutation-sym, IsPermutation-swap_remove, Contains-permutation}
use Rattle.path_arena.specs.Arena.{Arena, IsLive, id_cmp}
use Rattle.std.specs.Prelude.{[], ◌∷◌, ◌++◌}
use Rattle.std.proofs.lemmas.List.{get_or_append_left, length_push, get_or-take, length-take-le, get_or_default}
use Rattle.std.proofs.lemmas.List.Elements.{Contains-push_cases, Contains-append_right}
use Rattle.pair_heaps.specs.Heaps.{IsIdBelow, IsHeap, Heaps, IsLeastHeld, held_at}
use Rattle.pair_heaps.specs.Sifting.{IsChild, IsUpon, IsBridged, IsRising, IsSinking, IsLoose, AreLive}
use Rattle.pair_heaps.proofs.Orders.{not_below_itself, below_chain, not_below_from}

same_parent : (i p q : ℕ) → IsChild i p → IsChild i q → p ≡ q
same_parent i p q (inl e) (inl f) = omega arith
same_parent i p q (inl e) (inr f) = omega arith
same_parent i p q (inr e) (inl f) = omega arith
same_parent i p q (inr e) (inr f) = omega arith

pub later : (i p : ℕ) → IsChild i p → p < i
later i p (inl e) = omega arith
later i p (inr e) = omega arith

-- no entry is below its parent, said of children
abbrev pub AreUpon : Arena → List ℕ → Type 0
AreUpon a xs = (i p : ℕ) → IsChild i p → i < length xs → IsUpon a xs i p

pub parent_child : (hole : ℕ) → 0 < hole → IsChild hole ((hole - 1) / 2)
parent_child hole some =
    elim (cases_eq ((hole - 1) % 2) 0) [ inl even ↦ inl (omega arith) | inr odd ↦ inr (omega arith) ]

pub heap_upon : (a : Arena) (xs : List ℕ) → AreUpon a xs → IsHeap a xs
heap_upon a xs upon i some inside = upon i ((i - 1) / 2) (parent_child i some) inside

pub upon_heap : (a : Arena) (xs : List ℕ) → IsHeap a xs → AreUpon a xs
upon_heap a xs heap i p of inside =
    let some : 0 < i = (let past : p < i = later i p of in omega arith) in
    let same : (i - 1) / 2 ≡ p = same_parent i ((i - 1) / 2) p (parent_child i some) of in
    subst (λ n. IsIdBelow a (get_or xs i 0) (get_or xs n 0) → ⊥) same (heap i some inside)

-- with other entries at the two places
upon_as : (a : Arena) (xs ys : List ℕ) (i p j q : ℕ) → get_or ys i 0 ≡ get_or xs j 0 → get_or ys p 0 ≡ get_or xs q 0
    → IsUpon a xs j q → IsUpon a ys i p
upon_as a xs ys i p j q same_i same_p upon =
    subst (λ y. IsIdBelow a y (get_or ys p 0) → ⊥) (sym same_i)
    (subst (λ y. IsIdBelow a (get_or xs j 0) y → ⊥) (sym same_p) upon)

-- an entry that is below its parent
module _ (a : Arena) (xs : List ℕ) (up hole : ℕ) (child : IsChild hole up) (inside : hole < length xs)
    (below : IsIdBelow a (get_or xs hole 0) (get_or xs up 0)) where
  swapped : Swapped (λ n. get_or xs n 0) (λ n. get_or (swap xs up hole) n 0) up hole
  swapped = swapped_from_swap xs (swap xs up hole) up hole 0 (omega (arith, later hole up child)) inside refl

  ordered : up < hole
  ordered = later hole up child

  turned : IsUpon a xs up hole
  turned h =
      not_below_itself a (get_or xs up 0) (below_chain a (get_or xs up 0) (get_or xs hole 0) (get_or xs up 0) h below)

  pub risen : IsRising a xs hole → IsRising a (swap xs up hole) up
  risen r = (edges, bridges)
    where
      edges : (i p : ℕ) → IsChild i p → i < length (swap xs up hole) → i ≢ up → IsUpon a (swap xs up hole) i p
      edges i p of i_in apart =
          let i_was : i < length xs = omega (arith, length-swap xs up hole) in
          let up_p : p < i = later i p of in
          elim (cases_eq p up) [
            | inl p_up ↦ elim (cases_eq i hole) [
              | inl i_hole ↦ upon_as a xs (swap xs up hole) i p up hole
                  (ap (λ n. get_or (swap xs up hole) n 0) i_hole ∙ swapped.1)
                  (ap (λ n. get_or (swap xs up hole) n 0) p_up ∙ swapped.0) turned
              | inr i_other ↦ upon_as a xs (swap xs up hole) i p i hole (swapped.2 i apart i_other)
                  (ap (λ n. get_or (swap xs up hole) n 0) p_up ∙ swapped.0)
                  (λ h. r.0 i up (subst (λ n. IsChild i n) p_up of) i_was i_other
                  (below_chain a (get_or xs i 0) (get_or xs hole 0) (get_or xs up 0) h below))
            ]
            | inr p_other ↦ elim (cases_eq p hole) [
              | inl p_hole ↦ let i_of : IsChild i hole = subst (λ n. IsChild i n) p_hole of in
                  let past : hole < i = later i hole i_of in
                  upon_as a xs (swap xs up hole) i p i up (swapped.2 i apart (λ e. omega arith))
                  (ap (λ n. get_or (swap xs up hole) n 0) p_hole ∙ swapped.1) (r.1 i up i_of child i_was)
              | inr p_else ↦
                  let i_else : i ≢ hole = λ e. p_other (same_parent hole p up (subst (λ n. IsChild n p) e of) child) in
                  upon_as a xs (swap xs up hole) i p i p (swapped.2 i apart i_else) (swapped.2 p p_other p_else)
                  (r.0 i p of i_was i_else)
            ]
          ]

      bridges : IsBridged a (swap xs up hole) up
      bridges i p of p_of i_in =
          let i_was : i < length xs = omega (arith, length-swap xs up hole) in
          let p_up : p < up = later up p p_of in
          let up_i : up < i = later i up of in
          let top : IsUpon a xs up p = r.0 up p p_of (omega arith) (λ e. omega arith) in
          elim (cases_eq i hole) [
            | inl i_hole ↦ upon_as a xs (swap xs up hole) i p up p
                (ap (λ n. get_or (swap xs up hole) n 0) i_hole ∙ swapped.1)
                (swapped.2 p (λ e. omega arith) (λ e. omega arith)) top
            | inr i_other ↦ upon_as a xs (swap xs up hole) i p i p (swapped.2 i (λ e. omega arith) i_other)
                (swapped.2 p (λ e. omega arith) (λ e. omega arith))
                (not_below_from a (get_or xs i 0) (get_or xs up 0) (get_or xs p 0) (r.0 i up of i_was i_other) top)
          ]

  -- the same exchange, seen from the parent, where the other child is not below this one
  pub sunk : ((i : ℕ) → IsChild i up → i < length xs → IsUpon a xs i hole) → IsSinking a xs up
      → IsSinking a (swap xs up hole) hole
  sunk lesser s = (edges, bridges)
    where
      edges : (i p : ℕ) → IsChild i p → i < length (swap xs up hole) → p ≢ hole → IsUpon a (swap xs up hole) i p
      edges i p of i_in apart =
          let i_was : i < length xs = omega (arith, length-swap xs up hole) in
          let up_p : p < i = later i p of in
          elim (cases_eq p up) [
            | inl p_up ↦ elim (cases_eq i hole) [
              | inl i_hole ↦ upon_as a xs (swap xs up hole) i p up hole
                  (ap (λ n. get_or (swap xs up hole) n 0) i_hole ∙ swapped.1)
                  (ap (λ n. get_or (swap xs up hole) n 0) p_up ∙ swapped.0) turned
              | inr i_other ↦ upon_as a xs (swap xs up hole) i p i hole (swapped.2 i (λ e. omega arith) i_other)
                  (ap (λ n. get_or (swap xs up hole) n 0) p_up ∙ swapped.0)
                  (lesser i (subst (λ n. IsChild i n) p_up of) i_was)
            ]
            | inr p_other ↦
                let i_else : i ≢ hole = λ e. p_other (same_parent hole p up (subst (λ n. IsChild n p) e of) child) in
                elim (cases_eq i up) [
                  | inl i_up ↦ upon_as a xs (swap xs up hole) i p hole p
                      (ap (λ n. get_or (swap xs up hole) n 0) i_up ∙ swapped.0) (swapped.2 p p_other apart)
                      (s.1 hole p child (subst (λ n. IsChild n p) i_up of) inside)
                  | inr i_other ↦ upon_as a xs (swap xs up hole) i p i p (swapped.2 i i_other i_else)
                      (swapped.2 p p_other apart) (s.0 i p of i_was p_other)
                ]
          ]

      bridges : IsBridged a (swap xs up hole) hole
      bridges i p of p_of i_in =
          let i_was : i < length xs = omega (arith, length-swap xs up hole) in
          let hole_i : hole < i = later i hole of in
          let p_up : p ≡ up = same_parent hole p up p_of child in
          upon_as a xs (swap xs up hole) i p i hole (swapped.2 i (λ e. omega arith) (λ e. omega arith))
          (ap (λ n. get_or (swap xs up hole) n 0) p_up ∙ swapped.0) (s.0 i hole of i_was (λ e. omega arith))

-- ---- the ends of the ways

pub risen_top : (a : Arena) (xs : List ℕ) (hole : ℕ) → hole ≡ 0 → IsRising a xs hole → IsHeap a xs
risen_top a xs hole top r =
    heap_upon a xs (λ i p of i_in. let up_p : p < i = later i p of in r.0 i p of i_in (λ e. omega arith))

pub risen_done : (a : Arena) (xs : List ℕ) (up hole : ℕ) → IsChild hole up → IsUpon a xs hole up → IsRising a xs hole
    → IsHeap a xs
risen_done a xs up hole child upon r = heap_upon a xs (λ i p of i_in. elim (cases_eq i hole) [
  | inl here ↦
      let p_up : p ≡ up = same_parent hole p up (subst (λ n. IsChild n p) here of) child in
      upon_as a xs xs i p hole up (ap (λ n. get_or xs n 0) here) (ap (λ n. get_or xs n 0) p_up) upon
  | inr apart ↦ r.0 i p of i_in apart
])

pub sunk_bottom : (a : Arena) (xs : List ℕ) (hole : ℕ) → length xs ≤ 2 * hole + 1 → IsSinking a xs hole → IsHeap a xs
sunk_bottom a xs hole none s = heap_upon a xs (λ i p of i_in. s.0 i p of i_in (below_none i p of i_in))
  where
    below_none : (i p : ℕ) → IsChild i p → i < length xs → p ≢ hole
    below_none i p (inl e) inside same = omega arith
    below_none i p (inr e) inside same = omega arith

pub sunk_done : (a : Arena) (xs : List ℕ) (c hole : ℕ) → IsUpon a xs c hole
    → ((i : ℕ) → IsChild i hole → i < length xs → IsUpon a xs i c) → IsSinking a xs hole → IsHeap a xs
sunk_done a xs c hole upon lesser s = heap_upon a xs (λ i p of i_in. elim (cases_eq p hole) [
  | inl here ↦ upon_as a xs xs i p i hole refl (ap (λ n. get_or xs n 0) here)
      (not_below_from a (get_or xs i 0) (get_or xs c 0) (get_or xs hole 0)
      (lesser i (subst (λ n. IsChild i n) here of) i_in) upon)
  | inr apart ↦ s.0 i p of i_in apart
])

-- ---- parents and children

pub lesser_right : (a : Arena) (xs : List ℕ) (at : ℕ)
    → IsIdBelow a (get_or xs (2 * at + 1 + 1) 0) (get_or xs (2 * at + 1) 0) → (i : ℕ) → IsChild i at → i < length xs
    → IsUpon a xs i (2 * at + 1 + 1)
lesser_right a xs at below i (inl e) inside h =
    not_below_itself a (get_or xs (2 * at + 1) 0)
    (below_chain a (get_or xs (2 * at + 1) 0) (get_or xs (2 * at + 1 + 1) 0) (get_or xs (2 * at + 1) 0)
    (subst (λ n. IsIdBelow a (get_or xs n 0) (get_or xs (2 * at + 1 + 1) 0)) e h) below)
lesser_right a xs at below i (inr e) inside h =
    let same : i ≡ 2 * at + 1 + 1 = omega arith in
    not_below_itself a (get_or xs (2 * at + 1 + 1) 0)
    (subst (λ n. IsIdBelow a (get_or xs n 0) (get_or xs (2 * at + 1 + 1) 0)) same h)

pub lesser_left : (a : Arena) (xs : List ℕ) (at : ℕ)
    → (2 * at + 1 + 1 < length xs → IsUpon a xs (2 * at + 1 + 1) (2 * at + 1)) → (i : ℕ) → IsChild i at → i < length xs
    → IsUpon a xs i (2 * at + 1)
lesser_left a xs at upon i (inl e) inside h =
    not_below_itself a (get_or xs (2 * at + 1) 0)
    (subst (λ n. IsIdBelow a (get_or xs n 0) (get_or xs (2 * at + 1) 0)) e h)
lesser_left a xs at upon i (inr e) inside h =
    let same : i ≡ 2 * at + 1 + 1 = omega arith in
    upon (omega arith) (subst (λ n. IsIdBelow a (get_or xs n 0) (get_or xs (2 * at + 1) 0)) same h)

pub child_right : (at : ℕ) → IsChild (2 * at + 1 + 1) at
child_right at = inr (omega arith)

pub child_left : (at : ℕ) → IsChild (2 * at + 1) at
child_left at = inl refl

pub still_live : (a : Arena) (xs ys : List ℕ) → IsPermutation xs ys → AreLive a xs → AreLive a ys
still_live a xs ys moved live q c = live q (Contains-permutation ys xs q (IsPermutation-sym xs ys moved) c)

-- ---- an entry that was put in the place of another, and one behind all others

pub loose_rises : (a : Arena) (xs : List ℕ) (up at : ℕ) → IsChild at up → IsIdBelow a (get_or xs at 0) (get_or xs up 0)
    → IsLoose a xs at → IsRising a xs at
loose_rises a xs up at child below loose = (
  λ i p of i_in apart. elim (cases_eq p at) [
    | inl here ↦ λ h.
        let i_of : IsChild i at = subst (λ n. IsChild i n) here of in
        loose.1 i up i_of child i_in (below_chain a (get_or xs i 0) (get_or xs at 0) (get_or xs up 0)
        (subst (λ n. IsIdBelow a (get_or xs i 0) (get_or xs n 0)) here h) below)
    | inr other ↦ loose.0 i p of i_in apart other
  ],
  loose.1,
)

pub loose_sinks : (a : Arena) (xs : List ℕ) (at : ℕ) → ((p : ℕ) → IsChild at p → IsUpon a xs at p) → IsLoose a xs at
    → IsSinking a xs at
loose_sinks a xs at upon loose = (
  λ i p of i_in apart. elim (cases_eq i at) [
    | inl here ↦ upon_as a xs xs i p at p (ap (λ n. get_or xs n 0) here) refl
        (upon p (subst (λ n. IsChild n p) here of))
    | inr other ↦ loose.0 i p of i_in other apart
  ],
  loose.1,
)

pub upon_parent : (a : Arena) (xs : List ℕ) (up at : ℕ) → IsChild at up → IsUpon a xs at up → (p : ℕ) → IsChild at p
    → IsUpon a xs at p
upon_parent a xs up at child upon p of =
    upon_as a xs xs at p at up refl (ap (λ n. get_or xs n 0) (same_parent at p up of child)) upon

pub upon_none : (a : Arena) (xs : List ℕ) (at : ℕ) → at ≡ 0 → (p : ℕ) → IsChild at p → IsUpon a xs at p
upon_none a xs at top p of = absurd (let past : p < at = later at p of in omega arith)

pub pushed_rises : (a : Arena) (xs : List ℕ) (id : ℕ) → IsHeap a xs → IsRising a (xs ++ id ∷ []) (length xs)
pushed_rises a xs id heap = (
  λ i p of i_in apart.
      let i_was : i < length xs = omega (arith, length_push xs id) in
      let p_i : p < i = later i p of in
      upon_as a xs (xs ++ id ∷ []) i p i p (get_or_append_left xs (id ∷ []) 0 i i_was)
      (get_or_append_left xs (id ∷ []) 0 p (omega arith)) (upon_heap a xs heap i p of i_was),
  λ i p of p_of i_in. absurd (let past : length xs < i = later i (length xs) of in omega (arith, length_push xs id)),
)

pub live_push : (a : Arena) (xs : List ℕ) (id : ℕ) → AreLive a xs → IsLive a id → AreLive a (xs ++ id ∷ [])
live_push a xs id live one q c =
    elim (Contains-push_cases xs id q c) [ inl before ↦ live q before | inr same ↦ subst (IsLive a) same one ]

-- ---- an entry is pulled out

pub pulled_at : (xs : List ℕ) (place i : ℕ) → place < length xs → i + 1 < length xs → i ≢ place
    → get_or (swap_remove xs place 0) i 0 ≡ get_or xs i 0
pulled_at xs place i place_in i_in apart =
    get_or-take (length xs - 1) (set xs place (get_or xs (length xs - 1) 0)) i 0 (omega arith)
    ∙ get_or-set_other xs place i (get_or xs (length xs - 1) 0) 0 apart

pulled_length : (xs : List ℕ) (place : ℕ) → length (swap_remove xs place 0) ≡ length xs - 1
pulled_length xs place =
    length-take-le (length xs - 1) (set xs place (get_or xs (length xs - 1) 0))
    (omega (arith, length-set xs place (get_or xs (length xs - 1) 0)))

pub pulled_loose : (a : Arena) (xs ys : List ℕ) (place : ℕ) → ys ≡ swap_remove xs place 0 → place < length xs
    → IsHeap a xs → IsLoose a ys place
pulled_loose a xs ys place is place_in heap = subst (λ (zs : List ℕ). IsLoose a zs place) (sym is) (edges, bridges)
  where
    short : (i : ℕ) → i < length (swap_remove xs place 0) → i + 1 < length xs
    short i i_in = omega (arith, pulled_length xs place)

    edges : (i p : ℕ) → IsChild i p → i < length (swap_remove xs place 0) → i ≢ place → p ≢ place
        → IsUpon a (swap_remove xs place 0) i p
    edges i p of i_in i_apart p_apart =
        let i_was : i + 1 < length xs = short i i_in in
        let p_i : p < i = later i p of in
        upon_as a xs (swap_remove xs place 0) i p i p (pulled_at xs place i place_in i_was i_apart)
        (pulled_at xs place p place_in (omega arith) p_apart) (upon_heap a xs heap i p of (omega arith))

    bridges : IsBridged a (swap_remove xs place 0) place
    bridges i p of p_of i_in =
        let i_was : i + 1 < length xs = short i i_in in
        let place_i : place < i = later i place of in
        let p_place : p < place = later place p p_of in
        upon_as a xs (swap_remove xs place 0) i p i p (pulled_at xs place i place_in i_was (λ e. omega arith))
        (pulled_at xs place p place_in (omega arith) (λ e. omega arith))
        (not_below_from a (get_or xs i 0) (get_or xs place 0) (get_or xs p 0)
        (upon_heap a xs heap i place of (omega arith)) (upon_heap a xs heap place p p_of place_in))

pub pulled_last : (a : Arena) (xs ys : List ℕ) (place : ℕ) → ys ≡ swap_remove xs place 0 → place + 1 ≡ length xs
    → IsHeap a xs → IsHeap a ys
pulled_last a xs ys place is end heap =
    subst (λ (zs : List ℕ). IsHeap a zs) (sym is) (heap_upon a (swap_remove xs place 0) (λ i p of i_in.
    let i_was : i + 1 < length xs = omega (arith, pulled_length xs place) in
    let p_i : p < i = later i p of in
    upon_as a xs (swap_remove xs place 0) i p i p (pulled_at xs place i (omega arith) i_was (λ e. omega arith))
    (pulled_at xs place p (omega arith) (omega arith) (λ e. omega arith))
    (upon_heap a xs heap i p of (omega arith))))

pub pulled_moved : (xs ys : List ℕ) (place : ℕ) → ys ≡ swap_remove xs place 0 → place < length xs
    → IsPermutation xs (get_or xs place 0 ∷ ys)
pulled_moved xs ys place is inside =
    let x = get_or xs place 0 in
    let last : get_or xs (length xs - 1) x ≡ get_or xs (length xs - 1) 0 =
    get_or_default xs (length xs - 1) x 0 (omega arith) in
    let same : swap_remove xs place x ≡ ys = ap (λ v. take (length xs - 1) (set xs place v)) last ∙ sym is in
    subst (λ (zs : List ℕ). IsPermutation xs (x ∷ zs)) same
    (IsPermutation-swap_remove xs place x inside (get_or_default xs place 0 x inside))

pub pulled_live : (a : Arena) (xs ys : List ℕ) (x : ℕ) → IsPermutation xs (x ∷ ys) → AreLive a xs → AreLive a ys
pulled_live a xs ys x moved live q c =
    live q (Contains-permutation (x ∷ ys) xs q (IsPermutation-sym xs (x ∷ ys) moved)
    (Contains-append_right (x ∷ []) ys q c))

-- ---- the first entry

pub above_first : (a : Arena) (xs : List ℕ) → IsHeap a xs → (n i : ℕ) → i ≤ n → i < length xs → IsUpon a xs i 0
above_first a xs heap zero i upto inside =
    λ h. let first : i ≡ 0 = omega arith in
    not_below_itself a (get_or xs 0 0) (subst (λ n. IsIdBelow a (get_or xs n 0) (get_or xs 0 0)) first h)
above_first a xs heap (suc n) i upto inside = elim (cases_eq i 0) [
  | inl first ↦ λ h. not_below_itself a (get_or xs 0 0)
      (subst (λ n. IsIdBelow a (get_or xs n 0) (get_or xs 0 0)) first h)
  | inr more ↦
      let some : 0 < i = omega arith in
      let child : IsChild i ((i - 1) / 2) = parent_child i some in
      let before : (i - 1) / 2 < i = later i ((i - 1) / 2) child in
      not_below_from a (get_or xs i 0) (get_or xs ((i - 1) / 2) 0) (get_or xs 0 0) (heap i some inside)
      (above_first a xs heap n ((i - 1) / 2) (omega arith) (omega arith))
]

pub heap_least : (xs : List ℕ) (o : Option ℕ) → o ≡ slice_get xs 0
    → IfSome o (λ id. (a : Arena) → IsHeap a xs → (q : ℕ) → Contains xs q → IsIdBelow a q id → ⊥)
heap_least xs None is = tt
heap_least xs (Some id) is = λ a heap q c below.
    let inside : 0 < length xs = slice_get_within xs 0 id (sym is) in
    let first : get_or xs 0 0 ≡ id = get_or_from_slice_get xs 0 id 0 (sym is) in
    let at : get_or xs c.0 0 ≡ q = get_or_default xs c.0 0 q c.1 ∙ c.2 in
    above_first a xs heap c.0 c.0 (omega arith) c.1
    (subst (λ y. IsIdBelow a (get_or xs c.0 0) y) (sym first) (subst (λ y. IsIdBelow a y id) (sym at) below))

pub heap_holds : (xs : List ℕ) (o : Option ℕ) → o ≡ slice_get xs 0 → IfSome o (Contains xs)
heap_holds xs None is = tt
heap_holds xs (Some id) is = (0, slice_get_within xs 0 id (sym is), get_or_from_slice_get xs 0 id id (sym is))

-- whether a list is a heap depends on the order of its entries alone
pub heap_same : (a b : Arena) (xs : List ℕ) → ((p q : ℕ) → Contains xs p → Contains xs q → id_cmp b p q ≡ id_cmp a p q)
    → IsHeap a xs → IsHeap b xs
heap_same a b xs same heap i some inside below =
    let p : ℕ = (i - 1) / 2 in
    let p_i : p < i = later i p (parent_child i some) in
    let p_in : p < length xs = omega arith in
    heap i some inside (sym (same (get_or xs i 0) (get_or xs p 0)
    (i, inside, get_or_default xs i (get_or xs i 0) 0 inside) (p, p_in, get_or_default xs p (get_or xs p 0) 0 p_in))
    ∙ below)

pub least_first : (h : Heaps) (x y : ℕ) (ids : List ℕ) (o : Option ℕ) → held_at h x y ≡ ids → o ≡ slice_get ids 0
    → IfSome o (IsLeastHeld h x y)
least_first h x y ids None same is = tt
least_first h x y ids (Some id) same is = record {
  held = subst (λ (xs : List ℕ). Contains xs id) (sym same) (heap_holds ids (Some id) is);
  least = λ a fits q c. heap_least ids (Some id) is a (subst (λ (xs : List ℕ). IsHeap a xs) same (fits.arranged x y)) q
      (subst (λ (xs : List ℕ). Contains xs q) same c);
}
