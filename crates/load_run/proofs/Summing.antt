-- Distances that are counted row by row: for `count_distances` and `row_distances`.
use Rattle.std.specs.Prelude.{◌≡◌, ◌≢◌, ℕ, suc, ◌+◌, ◌*◌, ◌<◌, ◌≤◌, false, ◌==◌, if◌then◌else◌, List, [], ◌∷◌, ◌++◌, length, Option, Some, None, MatchOption, refl}
use Rattle.std.specs.List.{sum_by}
use Rattle.std.specs.FinMap as map
use Rattle.std.proofs.Common.{sym, ◌∙◌, ap, subst, inl, inr, arith, length-append}
use Rattle.std.proofs.lemmas.Bool.{cases_eq, eq-eqb, ne_eqb}
use Rattle.std.proofs.lemmas.List.Sums.{sum_by-append}
use Rattle.std.proofs.lemmas.Nat.{mul-le}
use Rattle.apsp_model.specs.declared.TheConstants.{MOST_VERTICES, MOST_WEIGHT}
use Rattle.apsp_model.specs.Graph.{IsGraph}
use Rattle.apsp_model.specs.Walk.{hops_of}
use Rattle.apsp_model.specs.Stated.{Stated, Entry, entry_at, IsInRange, IsLawful, IsLawfulEntry}
use Rattle.apsp_model.specs.Least.{HasNoWalk}
use Rattle.apsp_model.proofs.Leasts.{least_is_simple}
use Rattle.apsp_model.proofs.Simples.{simple_walk_is_short, weight_most}
use Rattle.apsp_model.proofs.Stars.{pairs_total, exact_pair}
use Rattle.certificate.specs.Table.{item_list, row_items, table_items, table_map}
use Rattle.certificate.proofs.Tables.{cases_inside, get_inside, get_outside, entries-map_of}
use Rattle.load_run.specs.Report.{dist_of, DistancesAre}
use Rattle.load_run.specs.Rows.{stated_cell, RowDistancesAre, TableDistancesAre}

-- ---- an entry is not far

lawful_few : (s : Stated) (x y : ℕ) (e : Entry) → IsGraph s.graph → IsLawfulEntry s x y e
    → e.dist ≤ MOST_VERTICES * MOST_WEIGHT
lawful_few s x y e graph h =
    let short : length h.list ≤ s.graph.vertices =
    simple_walk_is_short s.graph h.list h.least.walk.walk (least_is_simple s.graph h.list (x, y, h.least)) in
    omega (
      arith,
      h.dist,
      weight_most s.graph graph h.list,
      mul-le (hops_of h.list) MOST_WEIGHT 512 4294967295
          (omega (arith, short, graph.most)) (omega arith),
    )

pub entry_few : (s : Stated) (x y : ℕ) (e : Entry) → IsGraph s.graph → IsLawful s → x < s.graph.vertices
    → y < s.graph.vertices → x ≢ y → entry_at s x y ≡ Some e → e.dist ≤ MOST_VERTICES * MOST_WEIGHT
entry_few s x y e graph lawful a b apart is =
    let F : Option Entry → Type 0 = λ o. MatchOption o (HasNoWalk s.graph x y) (IsLawfulEntry s x y) in
    lawful_few s x y e graph (subst F is (lawful x y a b apart))

-- ---- one pair more

other_cell : (s : Stated) (x y : ℕ) (o : Option Entry) → x ≢ y → entry_at s x y ≡ o → stated_cell s x y ≡ o
other_cell s x y o apart is =
    let test : (x == y) ≡ false = ne_eqb x y apart in
    ap (λ b. if b then None else map.get s.entries (x, y)) test
    ∙ sym (ap (λ b. if b then Some (record { dist = 0; hops = 0; next = x }) else map.get s.entries (x, y)) test)
    ∙ is

own_cell : (s : Stated) (x y : ℕ) → x ≡ y → stated_cell s x y ≡ None
own_cell s x y same = ap (λ b. if b then None else map.get s.entries (x, y)) (eq-eqb x y same)

pub row_none : (s : Stated) (x pairs sum : ℕ) → pairs ≡ 0 → sum ≡ 0 → RowDistancesAre s x 0 pairs sum
row_none s x pairs sum p q = record { count = p; total = q; few = omega (arith, p); most = omega (arith, q) }

row_same : (s : Stated) (x y pairs sum : ℕ) → RowDistancesAre s x y pairs sum → stated_cell s x y ≡ None
    → RowDistancesAre s x (suc y) pairs sum
row_same s x y pairs sum h is = record {
  count = h.count ∙ ap length (sym items);
  total = h.total ∙ ap (sum_by dist_of) (sym items);
  few = omega (arith, h.few);
  most = omega (arith, h.most);
}
  where
    append_none : {A : Type 0} (xs : List A) → xs ++ [] ≡ xs
    append_none [] = refl
    append_none (x ∷ xs) = ap (λ ys. x ∷ ys) (append_none xs)

    items : row_items (stated_cell s x) x (suc y) ≡ row_items (stated_cell s x) x y
    items = ap (λ o. row_items (stated_cell s x) x y ++ item_list (x, y) o) is
        ∙ append_none (row_items (stated_cell s x) x y)

pub row_own : (s : Stated) (x y pairs sum : ℕ) → RowDistancesAre s x y pairs sum → x ≡ y
    → RowDistancesAre s x (suc y) pairs sum
row_own s x y pairs sum h same = row_same s x y pairs sum h (own_cell s x y same)

pub row_without : (s : Stated) (x y pairs sum : ℕ) → RowDistancesAre s x y pairs sum → x ≢ y → entry_at s x y ≡ None
    → RowDistancesAre s x (suc y) pairs sum
row_without s x y pairs sum h apart is = row_same s x y pairs sum h (other_cell s x y None apart is)

pub row_more : (s : Stated) (x y pairs sum : ℕ) (e : Entry) (count total : ℕ) → RowDistancesAre s x y pairs sum → x ≢ y
    → entry_at s x y ≡ Some e → e.dist ≤ MOST_VERTICES * MOST_WEIGHT → count ≡ pairs + 1 → total ≡ sum + e.dist
    → RowDistancesAre s x (suc y) count total
row_more s x y pairs sum e count total h apart is near c t =
    let items : row_items (stated_cell s x) x (suc y) ≡ row_items (stated_cell s x) x y ++ ((x, y), e) ∷ [] =
    ap (λ o. row_items (stated_cell s x) x y ++ item_list (x, y) o) (other_cell s x y (Some e) apart is) in
    let single : sum_by dist_of (((x, y), e) ∷ []) ≡ 0 + e.dist = refl in
    let counted : pairs + 1 ≡ length (row_items (stated_cell s x) x y ++ ((x, y), e) ∷ []) =
    omega (arith, h.count, length-append (row_items (stated_cell s x) x y) (((x, y), e) ∷ [])) in
    let summed : sum + e.dist ≡ sum_by dist_of (row_items (stated_cell s x) x y ++ ((x, y), e) ∷ []) =
    omega (arith, h.total, sum_by-append dist_of (row_items (stated_cell s x) x y) (((x, y), e) ∷ []), single) in
    record {
      count = c ∙ counted ∙ ap length (sym items);
      total = t ∙ summed ∙ ap (sum_by dist_of) (sym items);
      few = omega (arith, c, h.few);
      most = omega (arith, t, h.most, near);
    }

-- ---- one row more

pub table_none : (s : Stated) (pairs sum : ℕ) → pairs ≡ 0 → sum ≡ 0 → TableDistancesAre s 0 pairs sum
table_none s pairs sum p q = record { count = p; total = q; few = omega (arith, p); most = omega (arith, q) }

pub table_more : (s : Stated) (x pairs sum p q count total : ℕ) → TableDistancesAre s x pairs sum
    → s.graph.vertices ≤ MOST_VERTICES → RowDistancesAre s x s.graph.vertices p q → count ≡ pairs + p → total ≡ sum + q
    → TableDistancesAre s (suc x) count total
table_more s x pairs sum p q count total h few row c t =
    let n = s.graph.vertices in
    let most : n * (MOST_VERTICES * MOST_WEIGHT) ≤ MOST_VERTICES * (MOST_VERTICES * MOST_WEIGHT) = omega (arith, few) in
    record {
      count = c ∙ ap (λ k. k + p) h.count
          ∙ ap (λ k. length (table_items (stated_cell s) s.graph.vertices x) + k) row.count
          ∙ sym (length-append (table_items (stated_cell s) s.graph.vertices x)
          (row_items (stated_cell s x) x s.graph.vertices));
      total = t ∙ ap (λ k. k + q) h.total
          ∙ ap (λ k. sum_by dist_of (table_items (stated_cell s) s.graph.vertices x) + k) row.total
          ∙ sym (sum_by-append dist_of (table_items (stated_cell s) s.graph.vertices x)
          (row_items (stated_cell s x) x s.graph.vertices));
      few = omega (arith, c, h.few, row.few, few);
      most = omega (arith, t, h.most, row.most, few);
    }

-- ---- the whole table

none_or_some : {V : Type 0} (o : Option V) (P : Type 0) → (o ≡ None → P) → ((w : V) → o ≡ Some w → P) → P
none_or_some None P a b = a refl
none_or_some (Some w) P a b = b w refl

entries_are : (s : Stated) → IsInRange s → table_map s.graph.vertices (stated_cell s) ≡ s.entries
entries_are s range =
    map.same_map pairs_total exact_pair (table_map s.graph.vertices (stated_cell s)) s.entries
    (λ q. elim (cases_inside s.graph.vertices q.0 q.1) [
      | inl i ↦ get_inside s.graph.vertices (stated_cell s) q.0 q.1 i.0 i.1 ∙ cell q.0 q.1
      | inr o ↦ get_outside s.graph.vertices (stated_cell s) q.0 q.1 o
          ∙ none_or_some (map.get s.entries q) (None ≡ map.get s.entries q) (λ e. sym e)
          (λ w e. absurd (o (range.entries q.0 q.1 w e).from (range.entries q.0 q.1 w e).to))
    ])
  where
    cell : (x y : ℕ) → stated_cell s x y ≡ map.get s.entries (x, y)
    cell x y = elim (cases_eq x y) [
      | inl same ↦ own_cell s x y same ∙ none_or_some (map.get s.entries (x, y)) (None ≡ map.get s.entries (x, y))
          (λ e. sym e) (λ w e. absurd ((range.entries x y w e).apart same))
      | inr apart ↦ ap (λ b. if b then None else map.get s.entries (x, y)) (ne_eqb x y apart)
    ]

pub table_whole : (s : Stated) (pairs sum : ℕ) → IsInRange s → TableDistancesAre s s.graph.vertices pairs sum
    → DistancesAre s pairs sum
table_whole s pairs sum range h =
    let items : map.entries s.entries ≡ table_items (stated_cell s) s.graph.vertices s.graph.vertices =
    ap map.entries (sym (entries_are s range)) ∙ entries-map_of s.graph.vertices (stated_cell s) in
    record {
      count = h.count ∙ ap length (sym items) ∙ sym (map.len-entries s.entries);
      total = h.total ∙ ap (sum_by dist_of) (sym items);
    }
