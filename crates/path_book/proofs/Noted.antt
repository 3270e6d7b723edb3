-- The flags of the dirty pairs, and their list.
use Rattle.std.specs.Prelude.{◌≡◌, ℕ, ◌+◌, ◌*◌, ◌<◌, Bool, true, false, cond, List, [], ◌∷◌, ◌++◌, length, slice_set, slice_index_or, refl, Contains}
use Rattle.std.proofs.Common.{sym, ◌∙◌, ap, subst, arith, inl, inr}
use Rattle.std.proofs.lemmas.Bool.{cases_eq, cases_lt, true≢false}
use Rattle.std.proofs.lemmas.List.{get_or-set_same, get_or-set_other, get_or_past, get_or_read, length-set}
use Rattle.std.proofs.lemmas.List.Elements.{Contains-append_left, Contains-append_right, Contains-push, Contains-push_cases}
use Rattle.apsp_model.specs.Walk.{IsOnceEach}
use Rattle.apsp_model.proofs.Members.{in_nil, in_cons, head_in, once_append}
use Rattle.pair_heaps.specs.Heaps.{place_of}
use Rattle.pair_heaps.proofs.Places.{place_inside, place_small, place_once, same_pair}
use Rattle.path_book.specs.Dirty.{Dirty, flag_at, is_dirty, with_flag, with_all, IsNoted, IsListed}

-- ---- flags

set_up : (flags : List Bool) (k : ℕ) → slice_index_or (slice_set flags k true) k true ≡ true
set_up flags k = elim (cases_lt k (length flags)) [
  | inl inside ↦ get_or-set_same flags k true true inside
  | inr past ↦ get_or_past (slice_set flags k true) k true (omega (arith, past, length-set flags k true))
]

set_other : (flags : List Bool) (k j : ℕ) → (j ≡ k → ⊥)
    → slice_index_or (slice_set flags k true) j true ≡ slice_index_or flags j true
set_other flags k j apart = get_or-set_other flags k j true true apart

set_still : (flags : List Bool) (k j : ℕ) → slice_index_or flags j true ≡ true
    → slice_index_or (slice_set flags k true) j true ≡ true
set_still flags k j up = elim (cases_eq j k) [
  | inl same ↦ subst (λ i. slice_index_or (slice_set flags k true) i true ≡ true) (sym same) (set_up flags k)
  | inr apart ↦ set_other flags k j apart ∙ up
]

pub up_here : (d : Dirty) (x y : ℕ) → flag_at (with_flag d x y) x y ≡ true
up_here d x y = set_up d.flags (place_of d.vertices x y)

pub up_still : (d : Dirty) (x y u v : ℕ) → flag_at d u v ≡ true → flag_at (with_flag d x y) u v ≡ true
up_still d x y u v up = set_still d.flags (place_of d.vertices x y) (place_of d.vertices u v) up

-- ---- the list

-- one pair more is listed
pub listed_more : (n : ℕ) (flags : List Bool) (pairs : List (ℕ × ℕ)) (x y : ℕ) → IsListed n flags pairs → x < n → y < n
    → slice_index_or flags (place_of n x y) true ≡ false
    → IsListed n (slice_set flags (place_of n x y) true) (pairs ++ (x, y) ∷ [])
listed_more n flags pairs x y s x_in y_in down = record {
  places = length-set flags (place_of n x y) true ∙ s.places;
  inside = λ p c. elim (Contains-push_cases pairs (x, y) p c) [
    | inl old ↦ s.inside p old
    | inr new ↦ subst (λ (q : ℕ × ℕ). (q.0 < n) × (q.1 < n)) new (x_in, y_in)
  ];
  up = λ p c. elim (Contains-push_cases pairs (x, y) p c) [
    | inl old ↦ set_still flags (place_of n x y) (place_of n p.0 p.1) (s.up p old)
    | inr new ↦ subst (λ (q : ℕ × ℕ). slice_index_or (slice_set flags (place_of n x y) true) (place_of n q.0 q.1) true ≡
        true) new (set_up flags (place_of n x y))
  ];
  all = λ u v u_in v_in up. elim (same_pair x y u v) [
    | inl here ↦ Contains-append_right pairs ((x, y) ∷ []) (u, v)
        (head_in (u, v) (x, y) [] (λ i. (sym here.0 i, sym here.1 i)))
    | inr other ↦ Contains-append_left pairs ((x, y) ∷ []) (u, v) (s.all u v u_in v_in (
        sym (set_other flags (place_of n x y) (place_of n u v)
        (λ same. (let one : (u ≡ x) × (v ≡ y) = place_once n x y u v x_in y_in same in other one.0 one.1))) ∙ up
        ))
  ];
  once = once_append pairs ((x, y) ∷ []) s.once (in_nil (x, y), tt) (λ p old new. (
      let here : slice_index_or flags (place_of n p.0 p.1) true ≡ false = elim (Contains-push_cases [] (x, y) p new) [
        | inl none ↦ absurd (in_nil p none)
        | inr same ↦ subst (λ (q : ℕ × ℕ). slice_index_or flags (place_of n q.0 q.1) true ≡ false) same down
      ] in
      true≢false (sym (s.up p old) ∙ here)
      ));
}

-- .. as its flag goes up
pub listed_noted : (n : ℕ) (all : Bool) (flags : List Bool) (old pairs : List (ℕ × ℕ)) (seen : Dirty) (x y place : ℕ)
    (bit : Bool) → IsListed n flags old → ◌≡◌ {A = Dirty} (record { vertices = n; all = all; flags = flags }) seen
    → x < seen.vertices → y < seen.vertices → place ≡ place_of seen.vertices x y → place < length seen.flags
    → bit ≡ slice_index_or flags place bit → bit ≡ false → pairs ≡ old ++ (x, y) ∷ []
    → IsListed n (slice_set flags place true) pairs
listed_noted n all flags old pairs seen x y place bit s view x_in y_in is inside read down longer =
    let as_many : seen.vertices ≡ n = sym (ap (λ (d : Dirty). d.vertices) view) in
    let place_is : place ≡ place_of n x y = is ∙ ap (λ k. place_of k x y) as_many in
    let within : place < length flags =
    subst (λ fs. place < length fs) (sym (ap (λ (d : Dirty). d.flags) view)) inside in
    let flag : slice_index_or flags (place_of n x y) true ≡ false =
    ap (λ k. slice_index_or flags k true) (sym place_is) ∙ sym (get_or_read flags place bit within read true)
    ∙ down in
    subst (λ k. IsListed n (slice_set flags k true) pairs) (sym place_is)
    (subst (λ ps. IsListed n (slice_set flags (place_of n x y) true) ps) (sym longer)
    (listed_more n flags old x y s (subst (λ k. x < k) as_many x_in) (subst (λ k. y < k) as_many y_in) flag))

-- the last pair is listed no more
once_front : {A : Type 0} (xs : List A) (x : A) → IsOnceEach (xs ++ x ∷ []) → IsOnceEach xs × (Contains xs x → ⊥)
once_front [] x once = (tt, in_nil x)
once_front (y ∷ ys) x once =
    let rest = once_front ys x once.1 in (
      (λ c. once.0 (Contains-append_left ys (x ∷ []) y c), rest.0),
      λ c. elim (in_cons x y ys c) [
        | inl same ↦ once.0 (Contains-append_right ys (x ∷ []) y (head_in y x [] (sym same)))
        | inr more ↦ rest.1 more
      ],
    )

pub listed_less : (n : ℕ) (flags : List Bool) (pairs : List (ℕ × ℕ)) (p : ℕ × ℕ) → IsListed n flags (pairs ++ p ∷ [])
    → IsListed n (slice_set flags (place_of n p.0 p.1) false) pairs
listed_less n flags pairs p s = record {
  places = length-set flags (place_of n p.0 p.1) false ∙ s.places;
  inside = λ q c. s.inside q (older q c);
  up = λ q c. get_or-set_other flags (place_of n p.0 p.1) (place_of n q.0 q.1) false true (apart q c) ∙ s.up q (older q c);
  all = λ x y x_in y_in up. elim (cases_eq (place_of n x y) (place_of n p.0 p.1)) [
    | inl here ↦ absurd (true≢false (
        sym up ∙ ap (λ k. slice_index_or (slice_set flags (place_of n p.0 p.1) false) k true) here
        ∙ get_or-set_same flags (place_of n p.0 p.1) false true inside
        ))
    | inr other ↦ elim (Contains-push_cases pairs p (x, y) (s.all x y x_in y_in (
        sym (get_or-set_other flags (place_of n p.0 p.1) (place_of n x y) false true other) ∙ up
        ))) [
          | inl old ↦ old
          | inr same ↦ absurd (other (sym (ap (λ (q : ℕ × ℕ). place_of n q.0 q.1) same)))
        ]
  ];
  once = (once_front pairs p s.once).0;
}
  where
    last : Contains (pairs ++ p ∷ []) p
    last = Contains-push pairs p

    older : (q : ℕ × ℕ) → Contains pairs q → Contains (pairs ++ p ∷ []) q
    older q c = Contains-append_left pairs (p ∷ []) q c

    ends : (p.0 < n) × (p.1 < n)
    ends = s.inside p last

    inside : place_of n p.0 p.1 < length flags
    inside = omega (arith, s.places, place_small n p.0 p.1 ends.0 ends.1)

    apart : (q : ℕ × ℕ) → Contains pairs q → place_of n q.0 q.1 ≡ place_of n p.0 p.1 → ⊥
    apart q c same =
        let one : (q.0 ≡ p.0) × (q.1 ≡ p.1) = place_once n p.0 p.1 q.0 q.1 ends.0 ends.1 same in
        (once_front pairs p s.once).1 (subst (Contains pairs) (λ i. (one.0 i, one.1 i)) c)

-- .. the last one of a list, at the place that the code reckons
pub listed_last : (n : ℕ) (flags : List Bool) (all pairs : List (ℕ × ℕ)) (x y : ℕ) → IsListed n flags all
    → all ≡ pairs ++ (x, y) ∷ [] → x * n + y < length flags
listed_last n flags all pairs x y s is =
    let ends : (x < n) × (y < n) =
    s.inside (x, y) (subst (λ ps. Contains ps (x, y)) (sym is) (Contains-push pairs (x, y))) in
    omega (arith, s.places, place_small n x y ends.0 ends.1, place_inside n x y ends.1)

pub listed_less_at : (n : ℕ) (flags : List Bool) (all pairs : List (ℕ × ℕ)) (x y : ℕ) → IsListed n flags all
    → all ≡ pairs ++ (x, y) ∷ [] → IsListed n (slice_set flags (x * n + y) false) pairs
listed_less_at n flags all pairs x y s is =
    let ends : (x < n) × (y < n) =
    s.inside (x, y) (subst (λ ps. Contains ps (x, y)) (sym is) (Contains-push pairs (x, y))) in
    subst (λ k. IsListed n (slice_set flags k false) pairs) (place_inside n x y ends.1)
    (listed_less n flags pairs (x, y) (subst (λ ps. IsListed n flags ps) is s))

-- where nothing is listed, no flag is up
pub none_up : (n : ℕ) (flags : List Bool) (x y : ℕ) → IsListed n flags [] → x < n → y < n
    → slice_index_or flags (place_of n x y) true ≡ false
none_up n flags x y s x_in y_in = at (slice_index_or flags (place_of n x y) true) refl
  where
    at : (b : Bool) → slice_index_or flags (place_of n x y) true ≡ b → slice_index_or flags (place_of n x y) true ≡ false
    at true up = absurd (in_nil (x, y) (s.all x y x_in y_in up))
    at false down = down

-- ---- one pair or all are dirty

all_true : (all : Bool) → cond all true true ≡ true
all_true true = refl
all_true false = refl

-- a flag that is up shows a dirty pair
pub dirty_up : (d : Dirty) (x y : ℕ) → flag_at d x y ≡ true → is_dirty d x y ≡ true
dirty_up d x y up = ap (cond d.all true) up ∙ all_true d.all

not_dirty : (all f g : Bool) → (f ≡ true → g ≡ true) → cond all true g ≡ false → cond all true f ≡ false
not_dirty true f g more down = down
not_dirty false false g more down = refl
not_dirty false true g more down = absurd (true≢false (sym (more refl) ∙ down))

pub noted_already : (d : Dirty) (x y : ℕ) → flag_at d x y ≡ true → IsNoted d d x y
noted_already d x y up = record { vertices = refl; here = dirty_up d x y up; still = λ u v down. down }

pub noted_flag : (d : Dirty) (x y : ℕ) → IsNoted d (with_flag d x y) x y
noted_flag d x y = record {
  vertices = refl;
  here = dirty_up (with_flag d x y) x y (up_here d x y);
  still = λ u v down. not_dirty d.all (flag_at d u v) (flag_at (with_flag d x y) u v) (up_still d x y u v) down;
}

pub noted_all : (d : Dirty) (x y : ℕ) → IsNoted d (with_all d) x y
noted_all d x y = record { vertices = refl; here = refl; still = λ u v down. absurd (true≢false down) }

-- ---- all pairs are listed

-- flags go up in rows, those of u before x and in x those before y
pub record IsFilling (old new : Dirty) (x y : ℕ) : Type 0 where
  pub vertices : new.vertices ≡ old.vertices
  pub all : new.all ≡ old.all
  pub still : (u v : ℕ) → flag_at old u v ≡ true → flag_at new u v ≡ true
  pub row : (v : ℕ) → v < y → flag_at new x v ≡ true

pub filling_starts : (d : Dirty) (x : ℕ) → IsFilling d d x 0
filling_starts d x = record { vertices = refl; all = refl; still = λ u v up. up; row = λ v l. absurd (omega arith) }

pub filling_step : (old d : Dirty) (x y : ℕ) → IsFilling old d x y → IsFilling old (with_flag d x y) x (y + 1)
filling_step old d x y s = record {
  vertices = s.vertices;
  all = s.all;
  still = λ u v up. up_still d x y u v (s.still u v up);
  row = λ v l. elim (cases_lt v y) [
    | inl before ↦ up_still d x y x v (s.row v before)
    | inr past ↦ let same : y ≡ v =
        omega (arith, l, past) in subst (λ w. flag_at (with_flag d x y) x w ≡ true) same (up_here d x y)
  ];
}

pub record AreFilled (old new : Dirty) (x : ℕ) : Type 0 where
  pub vertices : new.vertices ≡ old.vertices
  pub all : new.all ≡ old.all
  pub rows : (u v : ℕ) → u < x → v < old.vertices → flag_at new u v ≡ true

pub filled_none : (d : Dirty) → AreFilled d d 0
filled_none d = record { vertices = refl; all = refl; rows = λ u v l k. absurd (omega arith) }

pub filled_row : (old d new : Dirty) (x : ℕ) → AreFilled old d x → new.vertices ≡ d.vertices → new.all ≡ d.all
    → ((u v : ℕ) → flag_at d u v ≡ true → flag_at new u v ≡ true) → ((v : ℕ) → v < d.vertices → flag_at new x v ≡ true)
    → AreFilled old new (x + 1)
filled_row old d new x s vertices all still row = record {
  vertices = vertices ∙ s.vertices;
  all = all ∙ s.all;
  rows = λ u v l k. elim (cases_lt u x) [
    | inl before ↦ still u v (s.rows u v before k)
    | inr past ↦ let same : x ≡ u =
        omega (arith, l, past) in subst (λ w. flag_at new w v ≡ true) same
        (row v (subst (λ n. v < n) (sym s.vertices) k))
  ];
}

-- where all were dirty, all are
pub all_dirty : (old new : Dirty) (x y : ℕ) → old.all ≡ true → new.all ≡ old.all → is_dirty new x y ≡ is_dirty old x y
all_dirty old new x y was same =
    ap (λ b. cond b true (flag_at new x y)) (same ∙ was) ∙ sym (ap (λ b. cond b true (flag_at old x y)) was)

pub all_flagged : (old new : Dirty) (x y : ℕ) → old.all ≡ true → flag_at new x y ≡ true
    → is_dirty new x y ≡ is_dirty old x y
all_flagged old new x y was up = dirty_up new x y up ∙ sym (ap (λ b. cond b true (flag_at old x y)) was)
