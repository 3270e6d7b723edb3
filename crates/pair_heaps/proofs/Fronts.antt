-- The entries of a heap in front of others, and the place of one.
use Rattle.std.specs.Prelude.{◌≡◌, ℕ, ◌+◌, ◌-◌, ◌<◌, ◌≤◌, List, [], ◌∷◌, ◌++◌, length, take, drop, false, Contains}
use Rattle.std.specs.List.Sorted.{IsPermutation}
use Rattle.std.proofs.Common.{sym, ◌∙◌, ap, subst, arith, inl, inr, get_or, set, eqb, not, add-one}
use Rattle.std.proofs.Math.Seq.{take-suc-set}
use Rattle.std.proofs.lemmas.Bool.{true≢false}
use Rattle.std.proofs.lemmas.Bool.Decides.{eqb_tells}
use Rattle.std.proofs.lemmas.List.{length-take-le, length-drop, get_or-drop, get_or_default, take-append-le, take_all, drop_more}
use Rattle.std.proofs.lemmas.List.Sorted.{IsPermutation-cons, IsPermutation-trans}
use Rattle.apsp_model.proofs.Members.{in_cons as contains_cons}
use Rattle.path_arena.specs.Arena.{Arena}
use Rattle.apsp_model.specs.Walk.{IsOnceEach}
use Rattle.pair_heaps.specs.Heaps.{IsHeap, IsWith, IsAllBut}
use Rattle.pair_heaps.specs.Sifting.{IsRising, IsLoose}
use Rattle.pair_heaps.proofs.Once.{with_moved, without_moved}
use Rattle.pair_heaps.proofs.Sifted.{pushed_rises, pulled_loose, pulled_moved, pulled_last}

-- ---- an entry behind the others

pub put_rises : (a : Arena) (xs : List ℕ) (len id : ℕ) → len < length xs → IsHeap a (take len xs)
    → IsRising a (take (len + 1) (set xs len id)) len
put_rises a xs len id inside heap =
    let pushed : take (len + 1) (set xs len id) ≡ take len xs ++ id ∷ [] =
    ap (λ n. take n (set xs len id)) (add-one len) ∙ take-suc-set xs len id inside in
    let long : length (take len xs) ≡ len = length-take-le len xs (omega arith) in
    subst (λ (ys : List ℕ). IsRising a ys len) (sym pushed)
    (subst (λ n. IsRising a (take len xs ++ id ∷ []) n) long (pushed_rises a (take len xs) id heap))

-- the front of a list of which the front was replaced
pub front_is : (ys zs : List ℕ) (n : ℕ) → length ys ≡ n → take n (ys ++ zs) ≡ ys
front_is ys zs n long = take-append-le n ys zs (omega arith) ∙ take_all n ys (omega arith)

pub front_heap : (a : Arena) (ys zs : List ℕ) (n : ℕ) → length ys ≡ n → IsHeap a ys → IsHeap a (take n (ys ++ zs))
front_heap a ys zs n long heap = subst (IsHeap a) (sym (front_is ys zs n long)) heap

-- ---- the last entry in the place of another

last_read : (xs : List ℕ) (v : ℕ) → 0 < length xs → v ≡ get_or xs (length xs - 1) v → v ≡ get_or xs (length xs - 1) 0
last_read xs v some is = is ∙ get_or_default xs (length xs - 1) v 0 (omega arith)

pub front_loose : (a : Arena) (xs : List ℕ) (place v : ℕ) → place < length xs → v ≡ get_or xs (length xs - 1) v
    → IsHeap a xs → IsLoose a (take (length xs - 1) (set xs place v)) place
front_loose a xs place v inside is heap =
    pulled_loose a xs (take (length xs - 1) (set xs place v)) place
    (ap (λ w. take (length xs - 1) (set xs place w)) (last_read xs v (omega arith) is)) inside heap

pub front_moved : (xs ys zs : List ℕ) (place id v : ℕ) → place < length xs → get_or xs place 0 ≡ id
    → v ≡ get_or xs (length xs - 1) v → length ys ≡ length xs - 1
    → IsPermutation (take (length xs - 1) (set xs place v)) ys → IsPermutation xs (id ∷ take (length xs - 1) (ys ++ zs))
front_moved xs ys zs place id v inside at is long moved =
    let front = take (length xs - 1) (set xs place v) in
    let pulled : IsPermutation xs (get_or xs place 0 ∷ front) =
    pulled_moved xs front place (ap (λ w. take (length xs - 1) (set xs place w)) (last_read xs v (omega arith) is))
    inside in
    let named : IsPermutation xs (id ∷ front) = subst (λ y. IsPermutation xs (y ∷ front)) at pulled in
    subst (λ (ws : List ℕ). IsPermutation xs (id ∷ ws)) (sym (front_is ys zs (length xs - 1) long))
    (IsPermutation-trans xs (id ∷ front) (id ∷ ys) named (IsPermutation-cons id front ys moved))

pub front_moved_last : (xs : List ℕ) (place id v : ℕ) → place < length xs → get_or xs place 0 ≡ id
    → v ≡ get_or xs (length xs - 1) v → IsPermutation xs (id ∷ take (length xs - 1) (set xs place v))
front_moved_last xs place id v inside at is =
    let front = take (length xs - 1) (set xs place v) in
    subst (λ y. IsPermutation xs (y ∷ front)) at
    (pulled_moved xs front place (ap (λ w. take (length xs - 1) (set xs place w)) (last_read xs v (omega arith) is))
    inside)

pub front_heap_last : (a : Arena) (xs : List ℕ) (place v : ℕ) → place + 1 ≡ length xs → v ≡ get_or xs (length xs - 1) v
    → IsHeap a xs → IsHeap a (take (length xs - 1) (set xs place v))
front_heap_last a xs place v last is heap =
    pulled_last a xs (take (length xs - 1) (set xs place v)) place
    (ap (λ w. take (length xs - 1) (set xs place w)) (last_read xs v (omega arith) is)) last heap

-- ---- the place of an id

in_drop : (xs : List ℕ) (n q : ℕ) → Contains (drop n xs) q → (k : ℕ) × (n ≤ k) × (k < length xs) × (get_or xs k q ≡ q)
in_drop xs n q c =
    let l : c.0 < length (drop n xs) = c.1 in
    let e : length (drop n xs) ≡ length xs - n = length-drop n xs in
    (n + c.0, omega arith, omega arith, sym (get_or-drop n xs c.0 q) ∙ c.2)

pub found_inside : (ids : List ℕ) (id place : ℕ) → Contains (drop place ids) id → place < length ids
found_inside ids id place c =
    let k : (k : ℕ) × (place ≤ k) × (k < length ids) × (get_or ids k id ≡ id) = in_drop ids place id c in
    let l : place ≤ k.0 = k.1 in let m : k.0 < length ids = k.2 in omega arith

pub found_more : (ids : List ℕ) (id place x : ℕ) → Contains (drop place ids) id → x ≡ get_or ids place x → (x ≡ id → ⊥)
    → Contains (drop (place + 1) ids) id
found_more ids id place x c at other =
    elim (contains_cons id (get_or ids place x) (drop (place + 1) ids)
    (subst (λ xs. Contains xs id) (drop_more ids place x (found_inside ids id place c)) c)) [
      | inl same ↦ absurd (other (at ∙ same))
      | inr more ↦ more
    ]

-- what a test of two ids tells
pub same_from_test : (p q : ℕ) → not (eqb p q) ≡ false → p ≡ q
same_from_test p q e = elim (eqb_tells p q) [
  | inl same ↦ same.1
  | inr other ↦ absurd (true≢false (sym (ap not other.0) ∙ e))
]

-- ---- whole lists

-- an id was put behind others and has risen
pub raised : (id n : ℕ) (xs mid ys zs : List ℕ) → mid ≡ xs ++ id ∷ [] → IsPermutation mid ys → length ys ≡ n
    → IsOnceEach xs → (Contains xs id → ⊥) → IsWith id xs (take n (ys ++ zs))
raised id n xs mid ys zs is moved long once fresh =
    subst (λ (ws : List ℕ). IsWith id xs ws) (sym (front_is ys zs n long))
    (with_moved id xs ys (subst (λ (ws : List ℕ). IsPermutation ws ys) is moved) once fresh)

-- one was taken out of the front, and what stands behind it cut off
pub lowered : (id n : ℕ) (xs mid ys zs : List ℕ) → mid ≡ xs → length mid ≡ n
    → IsPermutation mid (id ∷ take (length mid - 1) ys) → length ys ≡ n → IsOnceEach xs
    → IsAllBut id xs (take (n - 1) (take n (ys ++ zs)))
lowered id n xs mid ys zs is as_long moved long once =
    let cut : take (n - 1) (take n (ys ++ zs)) ≡ take (length mid - 1) ys =
    ap (λ (ws : List ℕ). take (n - 1) ws) (front_is ys zs n long) ∙ ap (λ m. take (m - 1) ys) (sym as_long) in
    subst (λ (ws : List ℕ). IsAllBut id xs ws) (sym cut)
    (without_moved id xs (take (length mid - 1) ys)
    (subst (λ (ws : List ℕ). IsPermutation ws (id ∷ take (length mid - 1) ys)) is moved) once)

-- the front of a front
pub front_of : (xs ys zs : List ℕ) (len : ℕ) → len ≤ length xs → length ys ≡ length (take len xs)
    → take (len - 1) (ys ++ zs) ≡ take (length (take len xs) - 1) ys
front_of xs ys zs len inside long =
    let short : length (take len xs) ≡ len = length-take-le len xs inside in
    take-append-le (len - 1) ys zs (omega arith) ∙ ap (λ m. take (m - 1) ys) (sym short)
