-- What the map of a table has at a pair: for `Graphs` and `StarRows`.
use Rattle.std.specs.Prelude.{◌≡◌, ℕ, zero, suc, ◌<◌, ◌⊎◌, ◌==◌, ◌&&◌, nat_lt, Bool, true, false, cond, if◌then◌else◌, List, [], ◌∷◌, ◌++◌, Option, Some, None, refl}
use Rattle.std.specs.Option.{option_or}
use Rattle.std.specs.Ordering.{eq_by_cmp}
use Rattle.std.specs.FinMap as map
use Rattle.std.proofs.Common.{sym, ◌∙◌, ap, subst, inl, inr, arith}
use Rattle.std.proofs.lemmas.Bool.{cases_eq, cases_lt}
use Rattle.std.proofs.lemmas.Bool.Decides.{nat_tests}
use Rattle.apsp_model.specs.Graph.{pair_cmp}
use Rattle.apsp_model.proofs.Stars.{pairs_total}
use Rattle.graph_store.specs.Table.{with_entry, row_entries, rows_entries, map_of}

pub same_pair : (a b u v : ℕ) → eq_by_cmp pair_cmp (a, b) (u, v) ≡ (a == u && b == v)
same_pair a b u v = grind (arith, nat_tests)

find-with_entry : (q k : ℕ × ℕ) (o : Option ℕ) (es : List ((ℕ × ℕ) × ℕ))
    → map.find pair_cmp q (with_entry k o es) ≡ cond (eq_by_cmp pair_cmp q k) (option_or o (map.find pair_cmp q es))
    (map.find pair_cmp q es)
find-with_entry q k None es = same (eq_by_cmp pair_cmp q k) (map.find pair_cmp q es)
  where
    same : (c : Bool) (o : Option ℕ) → o ≡ cond c (option_or None o) o
    same true None = refl
    same true (Some w) = refl
    same false o = refl
find-with_entry q k (Some w) es = refl

find-joined : (es fs : List ((ℕ × ℕ) × ℕ)) (q : ℕ × ℕ)
    → map.find pair_cmp q (es ++ fs) ≡ option_or (map.find pair_cmp q es) (map.find pair_cmp q fs)
find-joined [] fs q = refl
find-joined (e ∷ es) fs q =
    ap (cond (eq_by_cmp pair_cmp q e.0) (Some e.1)) (find-joined es fs q)
    ∙ moved (eq_by_cmp pair_cmp q e.0) e.1 (map.find pair_cmp q es) (map.find pair_cmp q fs)
  where
    moved : (b : Bool) (w : ℕ) (o r : Option ℕ) → cond b (Some w) (option_or o r) ≡ option_or (cond b (Some w) o) r
    moved true w o r = refl
    moved false w o r = refl

-- the test at the last of a row's cells
last_cell : (a u b v : ℕ) (row : ℕ → Option ℕ) (r : Option ℕ) → r ≡ (if a == u && nat_lt b v then row b else None)
    → cond (a == u && b == v) (option_or (row v) r) r ≡ (if a == u && nat_lt b (suc v) then row b else None)
last_cell a u b v row r e = elim (cases_eq b v) [
  | inl same ↦ subst (λ k. r ≡ (if a == u && nat_lt k v then row k else None)
      → cond (a == u && k == v) (option_or (row v) r) r ≡ (if a == u && nat_lt k (suc v) then row k else None))
      (sym same) (λ f. at (row v) f) e
  | inr other ↦ grind (arith, nat_tests)
]
  where
    at : (o : Option ℕ) → r ≡ (if a == u && nat_lt v v then o else None)
        → cond (a == u && v == v) (option_or o r) r ≡ (if a == u && nat_lt v (suc v) then o else None)
    at None f = grind (arith, nat_tests)
    at (Some w) f = grind (arith, nat_tests)

find-row_entries : (row : ℕ → Option ℕ) (u n a b : ℕ)
    → map.find pair_cmp (a, b) (row_entries row u n) ≡ (if a == u && nat_lt b n then row b else None)
find-row_entries row u zero a b = grind (arith, nat_tests)
find-row_entries row u (suc v) a b =
    find-with_entry (a, b) (u, v) (row v) (row_entries row u v)
    ∙ ap (λ c. cond c (option_or (row v) (map.find pair_cmp (a, b) (row_entries row u v)))
    (map.find pair_cmp (a, b) (row_entries row u v))) (same_pair a b u v)
    ∙ last_cell a u b v row _ (find-row_entries row u v a b)

-- the test at the last of the rows
last_row : (a u b n : ℕ) (f : ℕ → ℕ → Option ℕ) (r : Option ℕ) → r ≡ (if nat_lt a u && nat_lt b n then f a b else None)
    → option_or (if a == u && nat_lt b n then f u b else None) r ≡
    (if nat_lt a (suc u) && nat_lt b n then f a b else None)
last_row a u b n f r e = elim (cases_eq a u) [
  | inl same ↦ subst (λ k. r ≡ (if nat_lt k u && nat_lt b n then f k b else None)
      → option_or (if k == u && nat_lt b n then f u b else None) r ≡
      (if nat_lt k (suc u) && nat_lt b n then f k b else None)) (sym same) (λ h. at (f u b) h) e
  | inr other ↦ apart (f u b) (f a b) other e
]
  where
    at : (o : Option ℕ) → r ≡ (if nat_lt u u && nat_lt b n then o else None)
        → option_or (if u == u && nat_lt b n then o else None) r ≡ (if nat_lt u (suc u) && nat_lt b n then o else None)
    at None h = grind (arith, nat_tests)
    at (Some w) h = grind (arith, nat_tests)

    apart : (o p : Option ℕ) → (a ≡ u → ⊥) → r ≡ (if nat_lt a u && nat_lt b n then p else None)
        → option_or (if a == u && nat_lt b n then o else None) r ≡ (if nat_lt a (suc u) && nat_lt b n then p else None)
    apart o p other h = grind (arith, nat_tests)

find-rows_entries : (f : ℕ → ℕ → Option ℕ) (n m a b : ℕ)
    → map.find pair_cmp (a, b) (rows_entries f n m) ≡ (if nat_lt a m && nat_lt b n then f a b else None)
find-rows_entries f n zero a b = grind (arith, nat_tests)
find-rows_entries f n (suc u) a b =
    find-joined (row_entries (f u) u n) (rows_entries f n u) (a, b)
    ∙ ap (λ o. option_or o (map.find pair_cmp (a, b) (rows_entries f n u))) (find-row_entries (f u) u n a b)
    ∙ last_row a u b n f _ (find-rows_entries f n u a b)

pub get-map_of : (n : ℕ) (f : ℕ → ℕ → Option ℕ) (u v : ℕ)
    → map.get (map_of n f) (u, v) ≡ (if nat_lt u n && nat_lt v n then f u v else None)
unfolding map_of
get-map_of n f u v = map.get-from_entries pairs_total (rows_entries f n n) (u, v) ∙ find-rows_entries f n n u v

pub get_inside : (n : ℕ) (f : ℕ → ℕ → Option ℕ) (u v : ℕ) → u < n → v < n → map.get (map_of n f) (u, v) ≡ f u v
get_inside n f u v p q = get-map_of n f u v ∙ at (f u v) p q
  where
    at : (o : Option ℕ) → u < n → v < n → (if nat_lt u n && nat_lt v n then o else None) ≡ o
    at o p q = grind (arith, nat_tests)

pub get_outside : (n : ℕ) (f : ℕ → ℕ → Option ℕ) (u v : ℕ) → (u < n → v < n → ⊥) → map.get (map_of n f) (u, v) ≡ None
get_outside n f u v out = get-map_of n f u v ∙ at (f u v) out
  where
    at : (o : Option ℕ) → (u < n → v < n → ⊥) → (if nat_lt u n && nat_lt v n then o else None) ≡ None
    at o out = grind (arith, nat_tests)

-- a pair is inside, or not
pub cases_inside : (n u v : ℕ) → ((u < n) × (v < n)) ⊎ (u < n → v < n → ⊥)
cases_inside n u v = elim (cases_lt u n) [
  | inl p ↦ elim (cases_lt v n) [ inl q ↦ inl (p, q) | inr q ↦ inr (λ _ r. omega (arith, q, r)) ]
  | inr p ↦ inr (λ r _. omega (arith, p, r))
]
