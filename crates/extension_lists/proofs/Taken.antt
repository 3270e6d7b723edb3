-- A list whose marked ids stand in front, when an id is marked or taken out.
use Rattle.std.specs.Prelude.{◌≡◌, ℕ, ◌+◌, ◌-◌, ◌<◌, ◌≤◌, List, [], ◌∷◌, ◌++◌, length, take, refl, Contains}
use Rattle.std.specs.List.{swap, swap_remove}
use Rattle.std.specs.List.Sorted.{IsPermutation}
use Rattle.std.proofs.Common.{sym, ◌∙◌, ap, subst, arith, inl, inr, get_or, set, length-set, get_or-set_same, get_or-set_other}
use Rattle.std.proofs.lemmas.Bool.{cases_eq, cases_lt}
use Rattle.std.proofs.lemmas.List.{ext_get_or, get_or-take, length-take-le, take_more, take-set-le}
use Rattle.std.proofs.lemmas.List.Edits.{Swapped, swapped_from_swap, length-swap}
use Rattle.std.proofs.lemmas.List.Sorted.{IsPermutation-swap, IsPermutation-swap_remove, IsPermutation-trans, Contains-permutation, IsPermutation-sym}
use Rattle.apsp_model.specs.Walk.{IsOnceEach}
use Rattle.id_pool.specs.Lists.{Held, IsUnmarkedAt, IsTakenAt}
use Rattle.extension_lists.specs.Known.{IsWithout, IsSameIds}
use Rattle.extension_lists.proofs.Once.{IsApart, apart_from_once, once_from_apart, once_permutation, without_from_permutation, without_by_swap_remove, without_absent}

take_front : (n m : ℕ) (xs : List ℕ) → n ≤ m → m ≤ length xs → take n (take m xs) ≡ take n xs
take_front n m xs fits inside =
    ext_get_or 0 (take n (take m xs)) (take n xs) (long ∙ sym (length-take-le n xs (omega arith)))
    (λ i h. let at : i < n = omega (arith, long) in
    get_or-take n (take m xs) i 0 at ∙ get_or-take m xs i 0 (omega arith) ∙ sym (get_or-take n xs i 0 at))
  where
    long : length (take n (take m xs)) ≡ n
    long = length-take-le n (take m xs) (omega (arith, length-take-le m xs inside))

-- an id in front stands in the list
in_front : (m : ℕ) (xs : List ℕ) (id : ℕ) → m ≤ length xs → Contains (take m xs) id → (k : ℕ) × (k < m)
    × (get_or xs k id ≡ id)
in_front m xs id inside c =
    let at : c.0 < m = omega (arith, c.1, length-take-le m xs inside) in
    (c.0, at, sym (get_or-take m xs c.0 id at) ∙ c.2)

front_has : (m : ℕ) (xs : List ℕ) (id k : ℕ) → m ≤ length xs → k < m → get_or xs k id ≡ id → Contains (take m xs) id
front_has m xs id k inside at is = (k, omega (arith, length-take-le m xs inside), get_or-take m xs k id at ∙ is)

pub absent_front : (m : ℕ) (xs : List ℕ) (id : ℕ) → m ≤ length xs → (Contains xs id → ⊥) → Contains (take m xs) id → ⊥
absent_front m xs id inside absent c =
    let f : (k : ℕ) × (k < m) × (get_or xs k id ≡ id) = in_front m xs id inside c in absent (f.0, omega arith, f.2)

pub once_front_of : (m : ℕ) (xs : List ℕ) → m ≤ length xs → IsOnceEach xs → IsOnceEach (take m xs)
unfolding IsApart
once_front_of m xs inside once =
    let apart : IsApart xs = apart_from_once xs once in
    let long : length (take m xs) ≡ m = length-take-le m xs inside in
    once_from_apart (take m xs) (λ i j d i_in j_in same.
    apart i j d (omega arith) (omega arith)
    (sym (get_or-take m xs i d (omega arith)) ∙ same ∙ get_or-take m xs j d (omega arith)))

one_place : (xs : List ℕ) (id i j : ℕ) → IsOnceEach xs → i < length xs → j < length xs → get_or xs i id ≡ id
    → get_or xs j id ≡ id → i ≡ j
unfolding IsApart
one_place xs id i j once i_in j_in i_is j_is = apart_from_once xs once i j id i_in j_in (i_is ∙ sym j_is)

-- ---- the id is not marked, and the last one takes its place

stays_front : (m : ℕ) (xs : List ℕ) (i d : ℕ) → m ≤ i → i < length xs → take m (swap_remove xs i d) ≡ take m xs
stays_front m xs i d plain inside =
    take_front m (length xs - 1) (set xs i (get_or xs (length xs - 1) d)) (omega arith)
    (omega (arith, length-set xs i (get_or xs (length xs - 1) d)))
    ∙ take-set-le m xs i (get_or xs (length xs - 1) d) plain

pub without_plain : (id : ℕ) (xs ys : List ℕ) (i : ℕ) → i < length xs → get_or xs i id ≡ id → IsOnceEach xs
    → ys ≡ swap_remove xs i id → IsWithout id xs ys
without_plain id xs ys i inside here once is =
    subst (λ (zs : List ℕ). IsWithout id xs zs) (sym is) (without_by_swap_remove id xs i id inside (sym here) refl once)

pub stars_plain : (id : ℕ) (xs ys : List ℕ) (i m : ℕ) → m ≤ i → i < length xs → get_or xs i id ≡ id → IsOnceEach xs
    → ys ≡ swap_remove xs i id → IsWithout id (take m xs) (take m ys)
stars_plain id xs ys i m plain inside here once is =
    subst (λ (zs : List ℕ). IsWithout id (take m xs) zs) (sym (ap (take m) is ∙ stays_front m xs i id plain inside))
    (without_absent id (take m xs) (λ c.
    let f : (k : ℕ) × (k < m) × (get_or xs k id ≡ id) = in_front m xs id (omega arith) c in
    let same : f.0 ≡ i = one_place xs id f.0 i once (omega arith) inside f.2 here in
    omega (arith, f.1)) (once_front_of m xs (omega arith) once))

-- ---- the id is marked: the last marked one takes its place, and the last one of all the place of that one

swapped_hole : (id : ℕ) (xs : List ℕ) (i j : ℕ) → i < length xs → j < length xs → get_or xs i id ≡ id
    → get_or (swap xs i j) j id ≡ id
swapped_hole id xs i j i_in j_in here = (swapped_from_swap xs (swap xs i j) i j id i_in j_in refl).1 ∙ here

pub without_marked : (id : ℕ) (xs ys : List ℕ) (i j : ℕ) → i < length xs → j < length xs → get_or xs i id ≡ id
    → IsOnceEach xs → ys ≡ swap_remove (swap xs i j) j id → IsWithout id xs ys
without_marked id xs ys i j i_in j_in here once is =
    without_from_permutation id xs ys
    (IsPermutation-trans xs (swap xs i j) (id ∷ ys) (IsPermutation-swap xs (swap xs i j) i j i_in j_in refl)
    (subst (λ (zs : List ℕ). IsPermutation (swap xs i j) (id ∷ zs)) (sym is)
    (IsPermutation-swap_remove (swap xs i j) j id (omega (arith, length-swap xs i j))
    (sym (swapped_hole id xs i j i_in j_in here)))))
    once

pub stars_marked : (id : ℕ) (xs ys : List ℕ) (i m : ℕ) → i < m → m ≤ length xs → get_or xs i id ≡ id → IsOnceEach xs
    → ys ≡ swap_remove (swap xs i (m - 1)) (m - 1) id → IsWithout id (take m xs) (take (m - 1) ys)
stars_marked id xs ys i m i_in inside here once is =
    subst (λ (zs : List ℕ). IsWithout id (take m xs) zs) (sym same)
    (without_by_swap_remove id (take m xs) i id (omega (arith, long)) (sym (get_or-take m xs i id i_in ∙ here)) refl
    (once_front_of m xs inside once))
  where
    long : length (take m xs) ≡ m
    long = length-take-le m xs inside

    swapped : Swapped (λ n. get_or xs n id) (λ n. get_or (swap xs i (m - 1)) n id) i (m - 1)
    swapped = swapped_from_swap xs (swap xs i (m - 1)) i (m - 1) id (omega arith) (omega arith) refl

    last : get_or (take m xs) (length (take m xs) - 1) id ≡ get_or xs (m - 1) id
    last = ap (λ n. get_or (take m xs) (n - 1) id) long ∙ get_or-take m xs (m - 1) id (omega arith)

    at : (k : ℕ) → k < m - 1 → get_or (swap xs i (m - 1)) k id ≡ get_or
        (set (take m xs) i (get_or (take m xs) (length (take m xs) - 1) id)) k id
    at k below = elim (cases_eq k i) [
      | inl there ↦
          ap (λ n. get_or (swap xs i (m - 1)) n id) there
          ∙ swapped.0
          ∙ sym last
          ∙ sym (ap (λ n. get_or (set (take m xs) i (get_or (take m xs) (length (take m xs) - 1) id)) n id) there
          ∙ get_or-set_same (take m xs) i (get_or (take m xs) (length (take m xs) - 1) id) id (omega (arith, long)))
      | inr apart ↦
          swapped.2 k apart (λ end. omega arith)
          ∙ sym (get_or-set_other (take m xs) i k (get_or (take m xs) (length (take m xs) - 1) id) id apart
          ∙ get_or-take m xs k id (omega arith))
    ]

    fronts : take (m - 1) (swap xs i (m - 1)) ≡ swap_remove (take m xs) i id
    fronts =
        ext_get_or id (take (m - 1) (swap xs i (m - 1))) (swap_remove (take m xs) i id) (long_left ∙ sym long_right)
        (λ k h. let below : k < m - 1 = omega (arith, long_left) in
        get_or-take (m - 1) (swap xs i (m - 1)) k id below
        ∙ at k below
        ∙ sym (get_or-take (length (take m xs) - 1) (set (take m xs) i (get_or (take m xs) (length (take m xs) - 1) id))
        k id (omega (arith, long))))
      where
        long_left : length (take (m - 1) (swap xs i (m - 1))) ≡ m - 1
        long_left = length-take-le (m - 1) (swap xs i (m - 1)) (omega (arith, length-swap xs i (m - 1)))

        long_right : length (swap_remove (take m xs) i id) ≡ m - 1
        long_right =
            length-take-le (length (take m xs) - 1) (set (take m xs) i (get_or (take m xs) (length (take m xs) - 1) id))
            (omega (arith, length-set (take m xs) i (get_or (take m xs) (length (take m xs) - 1) id)))
            ∙ ap (λ n. n - 1) long

    same : take (m - 1) ys ≡ swap_remove (take m xs) i id
    same =
        ap (take (m - 1)) is
        ∙ stays_front (m - 1) (swap xs i (m - 1)) (m - 1) id (omega arith) (omega (arith, length-swap xs i (m - 1)))
        ∙ fronts

-- ---- an id is marked

pub marked_place : (id : ℕ) (xs : List ℕ) (m p : ℕ) → m ≤ length xs → p < length xs → get_or xs p id ≡ id
    → (Contains (take m xs) id → ⊥) → m ≤ p
marked_place id xs m p inside p_in here new = elim (cases_lt p m) [
  | inl below ↦ absurd (new (front_has m xs id p inside below here))
  | inr from ↦ from
]

pub marked_more : (id : ℕ) (xs : List ℕ) (m p : ℕ) → m ≤ p → p < length xs → get_or xs p id ≡ id
    → take (m + 1) (swap xs m p) ≡ take m xs ++ id ∷ []
marked_more id xs m p from p_in here =
    take_more (swap xs m p) m id (omega (arith, length-swap xs m p))
    ∙ ap (λ (zs : List ℕ). zs ++ get_or (swap xs m p) m id ∷ []) fronts
    ∙ ap (λ q. take m xs ++ q ∷ []) (swapped.0 ∙ here)
  where
    swapped : Swapped (λ n. get_or xs n id) (λ n. get_or (swap xs m p) n id) m p
    swapped = swapped_from_swap xs (swap xs m p) m p id (omega arith) p_in refl

    fronts : take m (swap xs m p) ≡ take m xs
    fronts =
        ext_get_or id (take m (swap xs m p)) (take m xs) (long ∙ sym (length-take-le m xs (omega arith)))
        (λ k h. let below : k < m = omega (arith, long) in
        get_or-take m (swap xs m p) k id below ∙ swapped.2 k (λ e. omega arith) (λ e. omega arith)
        ∙ sym (get_or-take m xs k id below))
      where
        long : length (take m (swap xs m p)) ≡ m
        long = length-take-le m (swap xs m p) (omega (arith, length-swap xs m p))

pub same_ids : (xs ys : List ℕ) → IsPermutation xs ys → IsSameIds xs ys
same_ids xs ys moved = (
  once_permutation xs ys moved,
  λ q. (Contains-permutation ys xs q (IsPermutation-sym xs ys moved), Contains-permutation xs ys q moved),
)

-- ---- what a list that one is taken out of lacks

pub taken_out : (id : ℕ) (old new : Held) (at : ℕ) → IsTakenAt old new at → old.marked ≤ length old.ids
    → at < length old.ids → get_or old.ids at id ≡ id → IsOnceEach old.ids → IsWithout id old.ids new.ids
    × IsWithout id (take old.marked old.ids) (take new.marked new.ids)
taken_out id old new at taken most inside here once = elim (cases_lt at old.marked) [
  | inl front ↦ (
    without_marked id old.ids new.ids at (old.marked - 1) inside (omega arith) here once (taken.marked_ids front id),
    subst (λ n. IsWithout id (take old.marked old.ids) (take n new.ids)) (sym (taken.marked_fewer front))
        (stars_marked id old.ids new.ids at old.marked front most here once (taken.marked_ids front id)),
  )
  | inr behind ↦ (
    without_plain id old.ids new.ids at inside here once (taken.plain_ids behind id),
    subst (λ n. IsWithout id (take old.marked old.ids) (take n new.ids)) (sym (taken.plain_marked behind))
        (stars_plain id old.ids new.ids at old.marked behind inside here once (taken.plain_ids behind id)),
  )
]

-- the last one, where it is not marked
pub taken_back : (old new : Held) (at : ℕ) → IsTakenAt old new at → old.marked ≤ at → at + 1 ≡ length old.ids
    → (new.ids ≡ take (length old.ids - 1) old.ids) × (new.marked ≡ old.marked)
taken_back old new at taken plain last = (
  taken.plain_ids plain 0 ∙ take-set-le (length old.ids - 1) old.ids at (get_or old.ids (length old.ids - 1) 0)
      (omega arith),
  taken.plain_marked plain,
)

-- ---- what a list lacks where one of its ids is marked no more

pub unmarked : (id : ℕ) (old new : Held) (at : ℕ) → IsUnmarkedAt old new at → old.marked ≤ length old.ids
    → at < old.marked → get_or old.ids at id ≡ id → IsOnceEach old.ids → IsPermutation old.ids new.ids
    × IsWithout id (take old.marked old.ids) (take new.marked new.ids)
unmarked id old new at gone most front here once =
    let swapped : List ℕ = swap old.ids at (old.marked - 1) in
    let last_in : old.marked - 1 < length swapped =
    omega (arith, length-swap old.ids at (old.marked - 1), most, front) in
    let same : take (old.marked - 1) (swap_remove swapped (old.marked - 1) id) ≡ take (old.marked - 1) swapped =
    stays_front (old.marked - 1) swapped (old.marked - 1) id (omega arith) last_in in
    let there : take new.marked new.ids ≡ take (old.marked - 1) swapped =
    ap (λ m. take m new.ids) gone.marked ∙ ap (λ (xs : List ℕ). take (old.marked - 1) xs) gone.ids in (
      IsPermutation-swap old.ids new.ids at (old.marked - 1) (omega arith) (omega arith) gone.ids,
      subst (λ (xs : List ℕ). IsWithout id (take old.marked old.ids) xs) (same ∙ sym there)
          (stars_marked id old.ids (swap_remove swapped (old.marked - 1) id) at old.marked front most here once refl),
    )
