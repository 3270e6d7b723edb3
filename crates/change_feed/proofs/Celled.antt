-- The three values of a pair: there is one such value each, and the tables that have them.
use Rattle.std.specs.Prelude.{◌≡◌, ℕ, ◌+◌, ◌-◌, ◌*◌, ◌<◌, ◌⊎◌, List, [], ◌++◌, length, take, drop, slice_index, Option, Some, None, refl}
use Rattle.std.proofs.Common.{sym, ◌∙◌, ap, subst, inl, inr, arith}
use Rattle.std.proofs.lemmas.Bool.{cases_lt}
use Rattle.std.proofs.lemmas.Nat.{mul-add-lt, mul-le}
use Rattle.std.proofs.lemmas.List.{get_or_append_left, get_or-append_right, length-append}
use Rattle.apsp_model.specs.Graph.{Graph}
use Rattle.apsp_model.specs.Least.{LeastIs}
use Rattle.apsp_model.proofs.Leasts.{least_unique}
use Rattle.apsp_model.proofs.Exists.{least_is_some_option}
use Rattle.version_face.specs.Entries.{CellIs, dist_in, hops_in, next_in}
use Rattle.version_face.specs.Seen.{VersionSeen, DistIs, HopsIs, NextIs, IsDistRow, IsHopsRow, IsNextRow}
use Rattle.version_face.specs.Rows.{AreCells}
use Rattle.version_face.proofs.Cells.{dist_row_at, hops_row_at, next_row_at}
use Rattle.change_feed.specs.Applied.{Shown, AreTablesOf}
use Rattle.change_feed.specs.Lent.{AreRows, AreRowsBelow}
use Rattle.change_feed.specs.Feeds.{table_row}

-- ---- values

pub option_unique : (g : Graph) (x y : ℕ) (o p : Option (List ℕ)) → LeastIs g x y o → LeastIs g x y p → o ≡ p
option_unique g x y None None h k = refl
option_unique g x y None (Some q) h k = absurd (h q k.walk)
option_unique g x y (Some p) None h k = absurd (k p h.walk)
option_unique g x y (Some p) (Some q) h k = ap Some (least_unique g x y p q h k)

pub cell_of : (g : Graph) (x y d h z : ℕ) → DistIs g x y d → HopsIs g x y h → NextIs g x y z → CellIs g x y d h z
cell_of g x y d h z a b c = record {
  walk = a.0;
  least = a.1;
  dist = a.2;
  hops = b.2 ∙ ap hops_in (option_unique g x y b.0 a.0 b.1 a.1);
  next = c.2 ∙ ap next_in (option_unique g x y c.0 a.0 c.1 a.1);
}

pub cell_has : (g : Graph) (x y d h z : ℕ) → CellIs g x y d h z → (o : Option (List ℕ)) → LeastIs g x y o
    → (d ≡ dist_in g o) × (h ≡ hops_in o) × (z ≡ next_in o)
cell_has g x y d h z c o least =
    let e : c.walk ≡ o = option_unique g x y c.walk o c.least least in
    (c.dist ∙ ap (dist_in g) e, c.hops ∙ ap hops_in e, c.next ∙ ap next_in e)

pub cell_from : (g : Graph) (x y d h z : ℕ)
    → ((o : Option (List ℕ)) → LeastIs g x y o → (d ≡ dist_in g o) × (h ≡ hops_in o) × (z ≡ next_in o))
    → CellIs g x y d h z
cell_from g x y d h z has =
    let some = least_is_some_option g x y in
    let r = has some.0 some.1 in
    record { walk = some.0; least = some.1; dist = r.0; hops = r.1; next = r.2 }

pub values_unique : (g : Graph) (x y d h z d' h' z' : ℕ) → CellIs g x y d h z → CellIs g x y d' h' z' → (d ≡ d')
    × (h ≡ h') × (z ≡ z')
values_unique g x y d h z d' h' z' a b =
    let r = cell_has g x y d h z a b.walk b.least in
    (r.0 ∙ sym b.dist, r.1 ∙ sym b.hops, r.2 ∙ sym b.next)

-- ---- whole tables

pub row_inside : (x y n : ℕ) → y < n → x * n + y < n * n → x < n
row_inside x y n q below = elim (cases_lt x n) [
  | inl less ↦ less
  | inr more ↦ absurd (omega (arith, mul-le n n x n more (omega arith), below))
]

pub are_cells : (v : VersionSeen) (s : Shown) → AreTablesOf v s
    → AreCells v.graph (v.graph.vertices * v.graph.vertices) s.dist s.hops s.next
are_cells v s h = record {
  dist_size = h.sizes.dist_size;
  hops_size = h.sizes.hops_size;
  next_size = h.sizes.next_size;
  cells = λ x y q below. cell_from v.graph x y _ _ _ (h.cells x y (row_inside x y v.graph.vertices q below) q);
}

same_slice : (s n : ℕ) (xs : List ℕ) → take (s + n - s) (drop s xs) ≡ take n (drop s xs)
same_slice s n xs = let e : s + n - s ≡ n = omega arith in ap (λ k. take k (drop s xs)) e

-- ---- rows of a mirror

module _ (n x : ℕ) (xs ys : List ℕ) (is : xs ≡ ys) where
  pub row_is : take (x * n + n - x * n) (drop (x * n) xs) ≡ table_row n x ys
  row_is = same_slice (x * n) n xs ∙ ap (λ l. take n (drop (x * n) l)) is

module _ (v : VersionSeen) (s : Shown) (n x : ℕ) (xs : List ℕ) (e : v.graph.vertices ≡ n) (p : x < n)
    (h : AreTablesOf v s) where
  pub dist_row_shown : xs ≡ s.dist → IsDistRow v.graph x (take (x * n + n - x * n) (drop (x * n) xs))
  dist_row_shown is =
      dist_row_at v.graph v.graph x n xs s.dist s.hops s.next refl (sym e) is (omega (arith, p, e)) (are_cells v s h)

  pub hops_row_shown : xs ≡ s.hops → IsHopsRow v.graph x (take (x * n + n - x * n) (drop (x * n) xs))
  hops_row_shown is =
      hops_row_at v.graph v.graph x n xs s.dist s.hops s.next refl (sym e) is (omega (arith, p, e)) (are_cells v s h)

  pub next_row_shown : xs ≡ s.next → IsNextRow v.graph x (take (x * n + n - x * n) (drop (x * n) xs))
  next_row_shown is =
      next_row_at v.graph v.graph x n xs s.dist s.hops s.next refl (sym e) is (omega (arith, p, e)) (are_cells v s h)

-- ---- tables made of rows

pub no_rows : (g : Graph) → AreRowsBelow g 0 [] [] []
no_rows g =
    record {
      dist_size = omega arith;
      hops_size = omega arith;
      next_size = omega arith;
      cells = λ x y below q. absurd
          (omega (arith, below));
    }

module _ (n x : ℕ) (xs ys : List ℕ) (size : length xs ≡ x * n) where
  old_place : (u w : ℕ) → u < x → w < n → slice_index (xs ++ ys) (u * n + w) ≡ slice_index xs (u * n + w)
  old_place u w p q = get_or_append_left xs ys 0 (u * n + w) (omega (arith, mul-add-lt u n w x p q, size))

  new_place : (w : ℕ) → slice_index (xs ++ ys) (x * n + w) ≡ slice_index ys w
  new_place w =
      let e : x * n + w - x * n ≡ w = omega arith in
      get_or-append_right xs ys (x * n) (x * n + w) 0 size (omega arith) ∙ ap (slice_index ys) e

  more_size : length ys ≡ n → length (xs ++ ys) ≡ (x + 1) * n
  more_size e = omega (arith, length-append xs ys, size, e)

below_or_here : (u x : ℕ) → u < x + 1 → (u < x) ⊎ (u ≡ x)
below_or_here u x h = elim (cases_lt u x) [ inl less ↦ inl less | inr more ↦ inr (omega (arith, h, more)) ]

pub rows_more : (g : Graph) (x : ℕ) (dist hops next d h z : List ℕ) → AreRowsBelow g x dist hops next
    → AreRows g x d h z → AreRowsBelow g (x + 1) (dist ++ d) (hops ++ h) (next ++ z)
rows_more g x dist hops next d h z rows row = record {
  dist_size = more_size g.vertices x dist d rows.dist_size row.dists.size;
  hops_size = more_size g.vertices x hops h rows.hops_size row.hopses.size;
  next_size = more_size g.vertices x next z rows.next_size row.nexts.size;
  cells = λ u w p q. elim (below_or_here u x p) [
    | inl less ↦
        let c = rows.cells u w less q in
        record {
          walk = c.walk;
          least = c.least;
          dist = old_place g.vertices x dist d rows.dist_size u w less q ∙ c.dist;
          hops = old_place g.vertices x hops h rows.hops_size u w less q ∙ c.hops;
          next = old_place g.vertices x next z rows.next_size u w less q ∙ c.next;
        }
    | inr here ↦ subst (λ i. CellIs g i w (slice_index (dist ++ d) (i * g.vertices + w))
        (slice_index (hops ++ h) (i * g.vertices + w)) (slice_index (next ++ z) (i * g.vertices + w))) (sym here)
        (last_row w q)
  ];
}
  where
    last_row : (w : ℕ) → w < g.vertices → CellIs g x w (slice_index (dist ++ d) (x * g.vertices + w))
        (slice_index (hops ++ h) (x * g.vertices + w)) (slice_index (next ++ z) (x * g.vertices + w))
    last_row w q =
        let c = cell_of g x w (slice_index d w) (slice_index h w) (slice_index z w) (row.dists.cells w q)
        (row.hopses.cells w q) (row.nexts.cells w q) in
        record {
          walk = c.walk;
          least = c.least;
          dist = new_place g.vertices x dist d rows.dist_size w ∙ c.dist;
          hops = new_place g.vertices x hops h rows.hops_size w ∙ c.hops;
          next = new_place g.vertices x next z rows.next_size w ∙ c.next;
        }

pub rows_are_tables : (v : VersionSeen) (dist hops next : List ℕ) → AreRowsBelow v.graph v.graph.vertices dist hops next
    → AreTablesOf v (record { number = v.number; dist = dist; hops = hops; next = next })
rows_are_tables v dist hops next h = record {
  number = refl;
  sizes = record { dist_size = h.dist_size; hops_size = h.hops_size; next_size = h.next_size };
  cells = λ x y p q. cell_has v.graph x y _ _ _ (h.cells x y p q);
}
