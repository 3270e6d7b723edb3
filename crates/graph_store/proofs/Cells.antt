-- Rows and columns of cells, after writes: for `put_row`, `put_column` and `take_column`.
use Rattle.std.specs.Prelude.{◌≡◌, ◌≢◌, ℕ, ◌+◌, ◌-◌, ◌*◌, ◌<◌, ◌≤◌, ◌==◌, ◌&&◌, nat_lt, if◌then◌else◌, List, ◌++◌, length, take, drop, replicate, slice_set, Option, None, refl}
use Rattle.std.proofs.Common.{sym, ◌∙◌, ap, subst, inl, inr, arith, get_or-set_other, get_or-set_same, length-set}
use Rattle.std.proofs.lemmas.Bool.{cases_eq, cases_lt, cases_order}
use Rattle.std.proofs.lemmas.Bool.Decides.{nat_tests}
use Rattle.std.proofs.lemmas.Nat.{mul-add-lt, mul-le, same_from_place}
use Rattle.std.proofs.lemmas.List.{get_or-replicate, get_or_past, length-replicate, places, take_all, drop_all, append-nil}
use borrow.Rule.Slice.PartMut.{put_mid}
use Rattle.graph_store.specs.Rows.{cell_at, HasRow, HasColumn, IsColumn}

pub no_cells : (n i : ℕ) → cell_at (replicate n None) i ≡ None
no_cells n i = elim (cases_lt i n) [
  | inl p ↦ get_or-replicate n i None None p
  | inr p ↦ get_or_past (replicate n None) i None (omega (arith, length-replicate n (let x : Option ℕ = None in x), p))
]

pub column_none : (n v : ℕ) (column old : List (Option ℕ)) → HasColumn n v 0 column old old
column_none n v column old = record {
  size = refl;
  cells = λ a b p q. grind (arith, nat_tests);
}

pub column_more : (n v k : ℕ) (column old cells : List (Option ℕ)) → v < n → k < n → length old ≡ n * n
    → HasColumn n v k column old cells → HasColumn n v (k + 1) column old
    (slice_set cells (k * n + v) (cell_at column k))
column_more n v k column old cells inside below size h = record {
  size = length-set cells (k * n + v) (cell_at column k) ∙ h.size;
  cells = λ a b p q. elim (cases_eq (a * n + b) (k * n + v)) [
    | inl same ↦ at a b (same_from_place a b k v n q inside same)
    | inr other ↦ get_or-set_other cells (k * n + v) (a * n + b) (cell_at column k) None other ∙ h.cells a b p q
        ∙ same_test a b other (cell_at column a) (cell_at old (a * n + b))
  ];
}
  where
    place : k * n + v < length cells
    place = omega (arith, mul-add-lt k n v n below inside, size, h.size)

    taken : (x y : Option ℕ) → x ≡ (if v == v && nat_lt k (k + 1) then x else y)
    taken x y = grind (arith, nat_tests)

    at : (a b : ℕ) → (a ≡ k) × (b ≡ v) → cell_at (slice_set cells (k * n + v) (cell_at column k)) (a * n + b) ≡
        (if b == v && nat_lt a (k + 1) then cell_at column a else cell_at old (a * n + b))
    at a b e =
        subst (λ i. cell_at (slice_set cells (k * n + v) (cell_at column k)) (i * n + b) ≡
        (if b == v && nat_lt i (k + 1) then cell_at column i else cell_at old (i * n + b))) (sym e.0)
        (subst (λ j. cell_at (slice_set cells (k * n + v) (cell_at column k)) (k * n + j) ≡
        (if j == v && nat_lt k (k + 1) then cell_at column k else cell_at old (k * n + j))) (sym e.1)
        (get_or-set_same cells (k * n + v) (cell_at column k) None place
        ∙ taken (cell_at column k) (cell_at old (k * n + v))))

    same_test : (a b : ℕ) → a * n + b ≢ k * n + v → (x y : Option ℕ)
        → (if b == v && nat_lt a k then x else y) ≡ (if b == v && nat_lt a (k + 1) then x else y)
    same_test a b other x y = elim (cases_eq b v) [
      | inl here ↦ elim (cases_eq a k) [
        | inl there ↦ absurd (other (ap (λ i. i * n + b) there ∙ ap (λ j. k * n + j) here))
        | inr apart ↦ grind (arith, nat_tests)
      ]
      | inr apart ↦ grind (arith, nat_tests)
    ]

-- a write of a part leaves the part, and what stands before and behind it
module _ (s n : ℕ) (row old : List (Option ℕ)) (size : length row ≡ n) (room : s + n ≤ length old) where
  length-put : length (put_mid s (s + n - s) old row) ≡ length old
  length-put = grind (arith, places)

  in_part : (i : ℕ) → i < n → cell_at (put_mid s (s + n - s) old row) (s + i) ≡ cell_at row i
  in_part i p = grind (arith, places)

  before_part : (i : ℕ) → i < s → cell_at (put_mid s (s + n - s) old row) i ≡ cell_at old i
  before_part i p = grind (arith, places)

  behind_part : (i : ℕ) → s + n ≤ i → cell_at (put_mid s (s + n - s) old row) i ≡ cell_at old i
  behind_part i p = grind (arith, places)

pub row_put : (n v : ℕ) (row old : List (Option ℕ)) → v < n → length row ≡ n → length old ≡ n * n
    → HasRow n v row old (put_mid (v * n) (v * n + n - v * n) old row)
row_put n v row old inside size whole = record {
  size = length-put (v * n) n row old size room;
  cells = λ a b p q. elim (cases_order a v) [
    | inl same ↦ subst (λ i. cell_at (put_mid (v * n) (v * n + n - v * n) old row) (i * n + b) ≡
        (if i == v then cell_at row b else cell_at old (i * n + b))) (sym same)
        (in_part (v * n) n row old size room b q ∙ taken (cell_at row b) (cell_at old (v * n + b)))
    | inr other ↦ elim other [
      | inl below ↦ before_part (v * n) n row old size room (a * n + b) (omega (arith, mul-add-lt a n b v below q))
          ∙ passed a (cell_at row b) (cell_at old (a * n + b)) (omega (arith, below))
      | inr above ↦ behind_part (v * n) n row old size room (a * n + b)
          (omega (arith, mul-le (v + 1) n a n (omega (arith, above)) (omega arith)))
          ∙ passed a (cell_at row b) (cell_at old (a * n + b)) (omega (arith, above))
    ]
  ];
}
  where
    room : v * n + n ≤ length old
    room = omega (arith, mul-le (v + 1) n n n (omega (arith, inside)) (omega arith), whole)

    taken : (x y : Option ℕ) → x ≡ (if v == v then x else y)
    taken x y = grind (arith, nat_tests)

    passed : (a : ℕ) (x y : Option ℕ) → (a ≡ v → ⊥) → y ≡ (if a == v then x else y)
    passed a x y other = grind (arith, nat_tests)

pub is_column_none : (n v : ℕ) (rows column : List (Option ℕ)) → length column ≡ n → IsColumn n v 0 rows column
is_column_none n v rows column size = record { size = size; cells = λ a p. absurd (omega (arith, p)) }

pub is_column_more : (n v k : ℕ) (rows column : List (Option ℕ)) → k < n → IsColumn n v k rows column
    → IsColumn n v (k + 1) rows (slice_set column k (cell_at rows (k * n + v)))
is_column_more n v k rows column below h = record {
  size = length-set column k (cell_at rows (k * n + v)) ∙ h.size;
  cells = λ a p. elim (cases_eq a k) [
    | inl same ↦ subst (λ i. cell_at (slice_set column k (cell_at rows (k * n + v))) i ≡ cell_at rows (i * n + v))
        (sym same) (get_or-set_same column k (cell_at rows (k * n + v)) None (omega (arith, h.size, below)))
    | inr other ↦ get_or-set_other column k a (cell_at rows (k * n + v)) None other
        ∙ h.cells a (omega (arith, p, other))
  ];
}

append-drop_all : (xs ys : List (Option ℕ)) → length ys ≡ length xs → ys ++ drop (length ys) xs ≡ ys
append-drop_all xs ys size =
    ap (λ n. ys ++ drop n xs) size ∙ ap (λ zs. ys ++ zs) (drop_all (length xs) xs (omega arith)) ∙ append-nil ys

-- a slice of all items of a vector that was written with as many items
pub written : (xs ys : List (Option ℕ)) (n : ℕ) → n ≡ length xs → length ys ≡ length xs
    → take n (ys ++ drop (length ys) xs) ≡ ys
written xs ys n e size = rw (append-drop_all xs ys size) (take_all n ys (omega (arith, e, size)))

-- a part that is read
pub length-part : (s n : ℕ) (xs : List (Option ℕ)) → s + n ≤ length xs → length (take (s + n - s) (drop s xs)) ≡ n
length-part s n xs room = grind (arith, places)

pub cell-part : (s n : ℕ) (xs : List (Option ℕ)) → s + n ≤ length xs → (b : ℕ) → b < n
    → cell_at (take (s + n - s) (drop s xs)) b ≡ cell_at xs (s + b)
cell-part s n xs room b p = grind (arith, places)
