-- The map of a table: its items in order, and what it has at a pair: for `Putting` and `Versions`.
use Rattle.std.specs.Prelude.{◌≡◌, ◌≢◌, ℕ, zero, suc, ◌+◌, ◌*◌, ◌<◌, ◌⊎◌, ◌==◌, ◌&&◌, nat_lt, Bool, true, false, cond, if◌then◌else◌, List, [], ◌∷◌, ◌++◌, length, replicate, slice_set, Option, Some, None, refl}
use Rattle.std.specs.Option.{option_or}
use Rattle.std.specs.Ordering.{eq_by_cmp}
use Rattle.std.specs.FinMap as map
use Rattle.std.specs.FinMap.{find}
use Rattle.std.proofs.Common.{sym, ◌∙◌, ap, subst, inl, inr, arith, append_assoc, get_or-set_other, get_or-set_same}
use Rattle.std.proofs.lemmas.Bool.{cases_eq, cases_lt}
use Rattle.std.proofs.lemmas.Bool.Decides.{nat_tests}
use Rattle.std.proofs.lemmas.List.{append-nil, get_or-replicate, get_or_past, length-replicate}
use Rattle.std.proofs.lemmas.Nat.{mul-add-lt, same_from_place}
use Rattle.apsp_model.specs.Graph.{pair_cmp}
use Rattle.apsp_model.proofs.Stars.{pairs_total, exact_pair}
use Rattle.certificate.specs.Table.{item_list, row_items, table_items, table_map, table_cell}
use Rattle.certificate.specs.Reading.{rises}
use Rattle.certificate.proofs.Maps.{rises_chain, Rising, EachOf, each_weaker, entries_made, same_pair}

row_step : (u v : ℕ) → rises (Some (u, v)) (u, suc v) ≡ true
row_step u v = grind (arith, nat_tests)

table_step : (u n : ℕ) → rises (Some (u, n)) (suc u, 0) ≡ true
table_step u n = grind (arith, nat_tests)

-- both numbers are below n, or not both
pub cases_inside : (n u v : ℕ) → ((u < n) × (v < n)) ⊎ (u < n → v < n → ⊥)
cases_inside n u v = elim (cases_lt u n) [
  | inl p ↦ elim (cases_lt v n) [ inl q ↦ inl (p, q) | inr q ↦ inr (λ _ r. omega (arith, q, r)) ]
  | inr p ↦ inr (λ r _. omega (arith, p, r))
]

-- the test at the last of a row's cells, and at the last of the rows
module _ {V : Type 0} where
  last_cell : (a u b v : ℕ) (o p : Option V) → (b ≡ v → o ≡ p)
      → option_or (if a == u && nat_lt b v then o else None) (cond (a == u && b == v) p None) ≡
      (if a == u && nat_lt b (suc v) then o else None)
  last_cell a u b v o p same = elim (cases_eq b v) [
    | inl here ↦ subst (λ r. option_or (if a == u && nat_lt b v then o else None) (cond (a == u && b == v) r None) ≡
        (if a == u && nat_lt b (suc v) then o else None)) (same here) (at o here)
    | inr other ↦ apart o p other
  ]
    where
      at : (o : Option V) → b ≡ v → option_or (if a == u && nat_lt b v then o else None)
          (cond (a == u && b == v) o None) ≡ (if a == u && nat_lt b (suc v) then o else None)
      at None e = grind (arith, nat_tests)
      at (Some w) e = grind (arith, nat_tests)

      apart : (o p : Option V) → (b ≡ v → ⊥)
          → option_or (if a == u && nat_lt b v then o else None) (cond (a == u && b == v) p None) ≡
          (if a == u && nat_lt b (suc v) then o else None)
      apart None p e = grind (arith, nat_tests)
      apart (Some w) p e = grind (arith, nat_tests)

  last_row : (a u b n : ℕ) (o p : Option V) → (a ≡ u → o ≡ p)
      → option_or (if nat_lt a u && nat_lt b n then o else None) (if a == u && nat_lt b n then p else None) ≡
      (if nat_lt a (suc u) && nat_lt b n then o else None)
  last_row a u b n o p same = elim (cases_eq a u) [
    | inl here ↦ subst (λ r. option_or (if nat_lt a u && nat_lt b n then o else None)
        (if a == u && nat_lt b n then r else None) ≡ (if nat_lt a (suc u) && nat_lt b n then o else None)) (same here)
        (at o here)
    | inr other ↦ apart o p other
  ]
    where
      at : (o : Option V) → a ≡ u → option_or (if nat_lt a u && nat_lt b n then o else None)
          (if a == u && nat_lt b n then o else None) ≡ (if nat_lt a (suc u) && nat_lt b n then o else None)
      at None e = grind (arith, nat_tests)
      at (Some w) e = grind (arith, nat_tests)

      apart : (o p : Option V) → (a ≡ u → ⊥)
          → option_or (if nat_lt a u && nat_lt b n then o else None) (if a == u && nat_lt b n then p else None) ≡
          (if nat_lt a (suc u) && nat_lt b n then o else None)
      apart None p e = grind (arith, nat_tests)
      apart (Some w) p e = grind (arith, nat_tests)

  find-joined : (es fs : List ((ℕ × ℕ) × V)) (q : ℕ × ℕ)
      → find pair_cmp q (es ++ fs) ≡ option_or (find pair_cmp q es) (find pair_cmp q fs)
  find-joined [] fs q = refl
  find-joined (e ∷ es) fs q =
      ap (cond (eq_by_cmp pair_cmp q e.0) (Some e.1)) (find-joined es fs q)
      ∙ moved (eq_by_cmp pair_cmp q e.0) e.1 (find pair_cmp q es) (find pair_cmp q fs)
    where
      moved : (b : Bool) (w : V) (o r : Option V) → cond b (Some w) (option_or o r) ≡ option_or (cond b (Some w) o) r
      moved true w o r = refl
      moved false w o r = refl

  find-item : (a b u v : ℕ) (o : Option V) → find pair_cmp (a, b) (item_list (u, v) o) ≡ cond (a == u && b == v) o None
  find-item a b u v None = at (a == u && b == v)
    where
      at : (c : Bool) → ◌≡◌ {A = Option V} None (cond c None None)
      at true = refl
      at false = refl
  find-item a b u v (Some w) = ap (λ c. cond c (Some w) None) (same_pair a b u v)

  find-row : (row : ℕ → Option V) (u n a b : ℕ)
      → find pair_cmp (a, b) (row_items row u n) ≡ (if a == u && nat_lt b n then row b else None)
  find-row row u zero a b = at (row b)
    where
      at : (o : Option V) → None ≡ (if a == u && nat_lt b 0 then o else None)
      at None = grind (arith, nat_tests)
      at (Some w) = grind (arith, nat_tests)
  find-row row u (suc v) a b =
      find-joined (row_items row u v) (item_list (u, v) (row v)) (a, b)
      ∙ ap (λ o. option_or o (find pair_cmp (a, b) (item_list (u, v) (row v)))) (find-row row u v a b)
      ∙ ap (λ o. option_or (if a == u && nat_lt b v then row b else None) o) (find-item a b u v (row v))
      ∙ last_cell a u b v (row b) (row v) (λ e. ap row e)

  find-table : (f : ℕ → ℕ → Option V) (n m a b : ℕ)
      → find pair_cmp (a, b) (table_items f n m) ≡ (if nat_lt a m && nat_lt b n then f a b else None)
  find-table f n zero a b = at (f a b)
    where
      at : (o : Option V) → None ≡ (if nat_lt a 0 && nat_lt b n then o else None)
      at None = grind (arith, nat_tests)
      at (Some w) = grind (arith, nat_tests)
  find-table f n (suc u) a b =
      find-joined (table_items f n u) (row_items (f u) u n) (a, b)
      ∙ ap (λ o. option_or o (find pair_cmp (a, b) (row_items (f u) u n))) (find-table f n u a b)
      ∙ ap (λ o. option_or (if nat_lt a u && nat_lt b n then f a b else None) o) (find-row (f u) u n a b)
      ∙ last_row a u b n (f a b) (f u b) (λ e. ap (λ i. f i b) e)

  -- ---- the items rise

  pub record IsRisingTo (q : ℕ × ℕ) (es : List ((ℕ × ℕ) × V)) : Type 0 where
    pub rising : Rising None es
    pub under : EachOf (λ e. rises (Some e.0) q ≡ true) es

  rising_push : (before : Option (ℕ × ℕ)) (es : List ((ℕ × ℕ) × V)) (q : ℕ × ℕ) (w : V) → rises before q ≡ true
      → EachOf (λ e. rises (Some e.0) q ≡ true) es → Rising before es → Rising before (es ++ (q, w) ∷ [])
  rising_push before [] q w up under h = (up, tt)
  rising_push before (e ∷ es) q w up under h = (h.0, rising_push (Some e.0) es q w under.0 under.1 h.1)

  each-push : (P : (ℕ × ℕ) × V → Type 0) (es : List ((ℕ × ℕ) × V)) (e : (ℕ × ℕ) × V) → EachOf P es → P e
      → EachOf P (es ++ e ∷ [])
  each-push P [] e h p = (p, tt)
  each-push P (f ∷ es) e h p = (h.0, each-push P es e h.1 p)

  to_later : (q r : ℕ × ℕ) (es : List ((ℕ × ℕ) × V)) → rises (Some q) r ≡ true → IsRisingTo q es → IsRisingTo r es
  to_later q r es up h =
      record {
        rising = h.rising;
        under = each_weaker (λ e. rises (Some e.0) q ≡ true) (λ e. rises (Some e.0) r ≡ true)
            es (λ e p. rises_chain (Some e.0) q r p up) h.under;
      }

  item_rising : (u v : ℕ) (es : List ((ℕ × ℕ) × V)) (o : Option V) → IsRisingTo (u, v) es
      → IsRisingTo (u, suc v) (es ++ item_list (u, v) o)
  item_rising u v es None h =
      subst (IsRisingTo (u, suc v)) (sym (append-nil es)) (to_later (u, v) (u, suc v) es (row_step u v) h)
  item_rising u v es (Some w) h =
      let l : IsRisingTo (u, suc v) es = to_later (u, v) (u, suc v) es (row_step u v) h in
      record {
        rising = rising_push None es (u, v) w refl h.under h.rising;
        under = each-push
            (λ e. rises (Some e.0) (u, suc v) ≡ true) es ((u, v), w) l.under (row_step u v);
      }

  pub row_rising : (row : ℕ → Option V) (u v : ℕ) (es : List ((ℕ × ℕ) × V)) → IsRisingTo (u, 0) es
      → IsRisingTo (u, v) (es ++ row_items row u v)
  row_rising row u zero es h = subst (IsRisingTo (u, 0)) (sym (append-nil es)) h
  row_rising row u (suc v) es h =
      subst (IsRisingTo (u, suc v)) (append_assoc es (row_items row u v) (item_list (u, v) (row v)))
      (item_rising u v (es ++ row_items row u v) (row v) (row_rising row u v es h))

  pub table_rising : (f : ℕ → ℕ → Option V) (n u : ℕ) → IsRisingTo (u, 0) (table_items f n u)
  table_rising f n zero = record { rising = tt; under = tt }
  table_rising f n (suc u) =
      to_later (u, n) (suc u, 0) (table_items f n (suc u)) (table_step u n)
      (row_rising (f u) u n (table_items f n u) (table_rising f n u))

  -- the entries of the map of a table are its items, row by row
  pub entries-map_of : (n : ℕ) (f : ℕ → ℕ → Option V) → map.entries (table_map n f) ≡ table_items f n n
  unfolding table_map
  entries-map_of n f = entries_made (table_items f n n) (table_rising f n n).rising

  pub get-map_of : (n : ℕ) (f : ℕ → ℕ → Option V) (u v : ℕ)
      → map.get (table_map n f) (u, v) ≡ (if nat_lt u n && nat_lt v n then f u v else None)
  get-map_of n f u v =
      map.get-entries (table_map n f) (u, v) ∙ ap (find pair_cmp (u, v)) (entries-map_of n f) ∙ find-table f n n u v

  -- the map has at a pair below n what the table has there
  pub get_inside : (n : ℕ) (f : ℕ → ℕ → Option V) (u v : ℕ) → u < n → v < n → map.get (table_map n f) (u, v) ≡ f u v
  get_inside n f u v p q = get-map_of n f u v ∙ at (f u v) p q
    where
      at : (o : Option V) → u < n → v < n → (if nat_lt u n && nat_lt v n then o else None) ≡ o
      at None p q = grind (arith, nat_tests)
      at (Some w) p q = grind (arith, nat_tests)

  -- .. and nothing elsewhere
  pub get_outside : (n : ℕ) (f : ℕ → ℕ → Option V) (u v : ℕ) → (u < n → v < n → ⊥)
      → map.get (table_map n f) (u, v) ≡ None
  get_outside n f u v out = get-map_of n f u v ∙ at (f u v) out
    where
      at : (o : Option V) → (u < n → v < n → ⊥) → (if nat_lt u n && nat_lt v n then o else None) ≡ None
      at None out = grind (arith, nat_tests)
      at (Some w) out = grind (arith, nat_tests)

  -- two tables that differ in one cell
  pub map_with : (n a b : ℕ) (w : V) (f g : ℕ → ℕ → Option V) → a < n → b < n
      → ((u v : ℕ) → u < n → v < n → g u v ≡ (if u == a && v == b then Some w else f u v))
      → table_map n g ≡ map.insert (table_map n f) (a, b) w
  map_with n a b w f g p q is =
      map.same_map pairs_total exact_pair (table_map n g) (map.insert (table_map n f) (a, b) w) (λ k. at k.0 k.1)
    where
      inside : (u v : ℕ) → u < n → v < n → map.get (table_map n g) (u, v) ≡ map.get
          (map.insert (table_map n f) (a, b) w) (u, v)
      inside u v r s =
          get_inside n g u v r s ∙ is u v r s
          ∙ ap (λ o. if u == a && v == b then Some w else o) (sym (get_inside n f u v r s))
          ∙ ap (λ c. cond c (Some w) (map.get (table_map n f) (u, v))) (sym (same_pair u v a b))
          ∙ sym (map.get-insert pairs_total (table_map n f) (a, b) w (u, v))

      apart : (u v : ℕ) (o : Option V) → (u < n → v < n → ⊥) → o ≡ cond (u == a && v == b) (Some w) o
      apart u v None out = grind (arith, nat_tests)
      apart u v (Some x) out = grind (arith, nat_tests)

      outside : (u v : ℕ) → (u < n → v < n → ⊥)
          → map.get (table_map n g) (u, v) ≡ map.get (map.insert (table_map n f) (a, b) w) (u, v)
      outside u v out =
          get_outside n g u v out
          ∙ sym (get_outside n f u v out)
          ∙ apart u v (map.get (table_map n f) (u, v)) out
          ∙ ap (λ c. cond c (Some w) (map.get (table_map n f) (u, v))) (sym (same_pair u v a b))
          ∙ sym (map.get-insert pairs_total (table_map n f) (a, b) w (u, v))

      at : (u v : ℕ) → map.get (table_map n g) (u, v) ≡ map.get (map.insert (table_map n f) (a, b) w) (u, v)
      at u v = elim (cases_inside n u v) [ inl i ↦ inside u v i.0 i.1 | inr o ↦ outside u v o ]

  -- the map of a table of nothing is empty
  pub map_none : (n : ℕ) (f : ℕ → ℕ → Option V) → ((u v : ℕ) → u < n → v < n → f u v ≡ None) → table_map n f ≡ map.empty
  map_none n f none =
      map.same_map pairs_total exact_pair (table_map n f) map.empty (λ k. elim (cases_inside n k.0 k.1) [
        | inl i ↦ get_inside n f k.0 k.1 i.0 i.1 ∙ none k.0 k.1 i.0 i.1 ∙ sym (map.get-empty pair_cmp (k.0, k.1))
        | inr o ↦ get_outside n f k.0 k.1 o ∙ sym (map.get-empty pair_cmp (k.0, k.1))
      ])

-- ---- cells

module _ {A : Type 0} where
  -- empty cells have nothing at any place
  pub no_cells : (n i : ℕ) → table_cell {A = A} (replicate n None) i ≡ None
  no_cells n i = elim (cases_lt i n) [
    | inl p ↦ get_or-replicate n i None None p
    | inr p ↦ get_or_past (replicate n None) i None
        (omega (arith, length-replicate n (let x : Option A = None in x), p))
  ]

  -- a cell that was set has its value, and the others are as they were
  pub cell_put : (n a b : ℕ) (cells : List (Option A)) (w : A) → length cells ≡ n * n → a < n → b < n → (u v : ℕ)
      → u < n → v < n → table_cell (slice_set cells (a * n + b) (Some w)) (u * n + v) ≡
      (if u == a && v == b then Some w else table_cell cells (u * n + v))
  cell_put n a b cells w size p q u v r s = elim (cases_eq (u * n + v) (a * n + b)) [
    | inl same ↦ here (same_from_place u v a b n s q same)
    | inr other ↦ get_or-set_other cells (a * n + b) (u * n + v) (Some w) None other
        ∙ apart other (table_cell cells (u * n + v))
  ]
    where
      place : a * n + b < length cells
      place = omega (arith, mul-add-lt a n b n p q, size)

      both : (x y : Option A) → x ≡ (if a == a && b == b then x else y)
      both x y = grind (arith, nat_tests)

      here : (u ≡ a) × (v ≡ b) → table_cell (slice_set cells (a * n + b) (Some w)) (u * n + v) ≡
          (if u == a && v == b then Some w else table_cell cells (u * n + v))
      here e =
          subst (λ i. table_cell (slice_set cells (a * n + b) (Some w)) (i * n + v) ≡
          (if i == a && v == b then Some w else table_cell cells (i * n + v))) (sym e.0)
          (subst (λ j. table_cell (slice_set cells (a * n + b) (Some w)) (a * n + j) ≡
          (if a == a && j == b then Some w else table_cell cells (a * n + j))) (sym e.1)
          (get_or-set_same cells (a * n + b) (Some w) None place ∙ both (Some w) (table_cell cells (a * n + b))))

      other_column : (v ≡ b → ⊥) → (o : Option A) → o ≡ (if u == a && v == b then Some w else o)
      other_column y o = grind (arith, nat_tests)

      other_row : (u ≡ a → ⊥) → (o : Option A) → o ≡ (if u == a && v == b then Some w else o)
      other_row x o = grind (arith, nat_tests)

      apart : u * n + v ≢ a * n + b → (o : Option A) → o ≡ (if u == a && v == b then Some w else o)
      apart other o = elim (cases_eq u a) [
        | inl x ↦ elim (cases_eq v b) [
          | inl y ↦ absurd (other (ap (λ i. i * n + v) x ∙ ap (λ j. a * n + j) y))
          | inr y ↦ other_column y o
        ]
        | inr x ↦ other_row x o
      ]
