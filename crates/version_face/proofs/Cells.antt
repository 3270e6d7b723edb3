-- The cells of a version's tables, written one after the other.
use Rattle.std.specs.Prelude.{◌≡◌, ◌≢◌, ℕ, ◌+◌, ◌*◌, ◌<◌, ◌≤◌, List, length, slice_index, slice_set, take, drop, ◌-◌, Option, Some, None, refl}
use Rattle.std.proofs.Common.{sym, ◌∙◌, ap, subst, inl, inr, arith, get_or-set_other, get_or-set_same, length-set}
use Rattle.std.proofs.lemmas.Bool.{cases_eq}
use Rattle.std.proofs.lemmas.Nat.{mul-add-lt, mul-le, same_from_place}
use Rattle.std.proofs.lemmas.List.{places}
use Rattle.apsp_model.specs.Graph.{Graph}
use Rattle.version_face.specs.declared.Entry.{Entry}
use Rattle.version_face.specs.Entries.{EntryIs, CellIs}
use Rattle.version_face.specs.Rows.{AreCells, dist_cell, hops_cell, next_cell}
use Rattle.version_face.specs.Seen.{IsDistRow, IsHopsRow, IsNextRow}

cell_from_entry : (g : Graph) (x y : ℕ) (o : Option Entry) → EntryIs g x y o
    → CellIs g x y (dist_cell o) (hops_cell o) (next_cell o)
cell_from_entry g x y None h = record { walk = None; least = h; dist = refl; hops = refl; next = refl }
cell_from_entry g x y (Some e) h =
    record { walk = Some h.0; least = h.1; dist = h.2.dist; hops = h.2.hops; next = h.2.next }

pub no_cells_yet : (g : Graph) (dist hops next : List ℕ) → length dist ≡ g.vertices * g.vertices
    → length hops ≡ g.vertices * g.vertices → length next ≡ g.vertices * g.vertices → AreCells g 0 dist hops next
no_cells_yet g dist hops next a b c =
    record { dist_size = a; hops_size = b; next_size = c; cells = λ x y p q. absurd (omega (arith, q)) }

pub cells_from : (g : Graph) (j k : ℕ) (dist hops next : List ℕ) → j ≡ k → AreCells g j dist hops next
    → AreCells g k dist hops next
cells_from g j k dist hops next e h = subst (λ i. AreCells g i dist hops next) e h

module _ (g : Graph) (x y : ℕ) (dist hops next : List ℕ) (o : Option Entry) (p : x < g.vertices) (q : y < g.vertices)
    (h : AreCells g (x * g.vertices + y) dist hops next) (entry : EntryIs g x y o) where
  new_cell : (xs : List ℕ) (v : ℕ) → length xs ≡ g.vertices * g.vertices
      → slice_index (slice_set xs (x * g.vertices + y) v) (x * g.vertices + y) ≡ v
  new_cell xs v size =
      get_or-set_same xs (x * g.vertices + y) v 0 (omega (arith, mul-add-lt x g.vertices y g.vertices p q, size))

  old_cell : (xs : List ℕ) (v i : ℕ) → i ≢ x * g.vertices + y
      → slice_index (slice_set xs (x * g.vertices + y) v) i ≡ slice_index xs i
  old_cell xs v i other = get_or-set_other xs (x * g.vertices + y) i v 0 other

  cell_here : CellIs g x y (slice_index (slice_set dist (x * g.vertices + y) (dist_cell o)) (x * g.vertices + y))
      (slice_index (slice_set hops (x * g.vertices + y) (hops_cell o)) (x * g.vertices + y))
      (slice_index (slice_set next (x * g.vertices + y) (next_cell o)) (x * g.vertices + y))
  cell_here =
      let c : CellIs g x y (dist_cell o) (hops_cell o) (next_cell o) = cell_from_entry g x y o entry in
      record {
        walk = c.walk;
        least = c.least;
        dist = new_cell dist (dist_cell o) h.dist_size
            ∙ c.dist;
        hops = new_cell hops (hops_cell o) h.hops_size
            ∙ c.hops;
        next = new_cell next (next_cell o) h.next_size ∙ c.next;
      }

  CellAt : ℕ → ℕ → Type 0
  CellAt a b =
      CellIs g a b (slice_index (slice_set dist (x * g.vertices + y) (dist_cell o)) (a * g.vertices + b))
      (slice_index (slice_set hops (x * g.vertices + y) (hops_cell o)) (a * g.vertices + b))
      (slice_index (slice_set next (x * g.vertices + y) (next_cell o)) (a * g.vertices + b))

  cell_there : (a b : ℕ) → a * g.vertices + b ≢ x * g.vertices + y
      → CellIs g a b (slice_index dist (a * g.vertices + b)) (slice_index hops (a * g.vertices + b))
      (slice_index next (a * g.vertices + b)) → CellAt a b
  unfolding CellAt
  cell_there a b other c =
      record {
        walk = c.walk;
        least = c.least;
        dist = old_cell dist (dist_cell o) (a * g.vertices + b) other
            ∙ c.dist;
        hops = old_cell hops (hops_cell o) (a * g.vertices + b) other
            ∙ c.hops;
        next = old_cell next (next_cell o) (a * g.vertices + b) other ∙ c.next;
      }

  cell_same : (a b : ℕ) → (a ≡ x) × (b ≡ y) → CellAt a b
  unfolding CellAt
  cell_same a b e = subst (λ i. CellAt i b) (sym e.0) (subst (λ j. CellAt x j) (sym e.1) cell_here)

  pub cells_more : AreCells g (x * g.vertices + (y + 1)) (slice_set dist (x * g.vertices + y) (dist_cell o))
      (slice_set hops (x * g.vertices + y) (hops_cell o)) (slice_set next (x * g.vertices + y) (next_cell o))
  unfolding CellAt
  cells_more = record {
    dist_size = length-set dist (x * g.vertices + y) (dist_cell o) ∙ h.dist_size;
    hops_size = length-set hops (x * g.vertices + y) (hops_cell o) ∙ h.hops_size;
    next_size = length-set next (x * g.vertices + y) (next_cell o) ∙ h.next_size;
    cells = λ a b r s. elim (cases_eq (a * g.vertices + b) (x * g.vertices + y)) [
      | inl same ↦ cell_same a b (same_from_place a b x y g.vertices r q same)
      | inr other ↦ cell_there a b other (h.cells a b r (omega (arith, s, other)))
    ];
  }

-- ---- rows that are read

row_length : (s n : ℕ) (xs : List ℕ) → s + n ≤ length xs → length (take (s + n - s) (drop s xs)) ≡ n
row_length s n xs room = grind (arith, places)

row_cell : (s n : ℕ) (xs : List ℕ) → s + n ≤ length xs → (b : ℕ) → b < n
    → slice_index (take (s + n - s) (drop s xs)) b ≡ slice_index xs (s + b)
row_cell s n xs room b p = grind (arith, places)

room : (x n k : ℕ) → x < n → k ≡ n * n → x * n + n ≤ k
room x n k p e = omega (arith, mul-le (x + 1) n n n (omega (arith, p)) (omega arith), e)

place_below : (x y n : ℕ) → x < n → y < n → x * n + y < n * n
place_below x y n p q = mul-add-lt x n y n p q

module _ (g : Graph) (x : ℕ) (dist hops next : List ℕ) (p : x < g.vertices)
    (h : AreCells g (g.vertices * g.vertices) dist hops next) where
  pub dist_row : IsDistRow g x (take (x * g.vertices + g.vertices - x * g.vertices) (drop (x * g.vertices) dist))
  dist_row = record {
    size = row_length (x * g.vertices) g.vertices dist (room x g.vertices (length dist) p h.dist_size);
    cells = λ y q. let c =
        h.cells x y q (place_below x y g.vertices p q) in (
          c.walk,
          c.least,
          row_cell (x * g.vertices) g.vertices dist (room x g.vertices (length dist) p h.dist_size) y q
              ∙ c.dist,
        );
  }

  pub hops_row : IsHopsRow g x (take (x * g.vertices + g.vertices - x * g.vertices) (drop (x * g.vertices) hops))
  hops_row = record {
    size = row_length (x * g.vertices) g.vertices hops (room x g.vertices (length hops) p h.hops_size);
    cells = λ y q. let c =
        h.cells x y q (place_below x y g.vertices p q) in (
          c.walk,
          c.least,
          row_cell (x * g.vertices) g.vertices hops (room x g.vertices (length hops) p h.hops_size) y q
              ∙ c.hops,
        );
  }

  pub next_row : IsNextRow g x (take (x * g.vertices + g.vertices - x * g.vertices) (drop (x * g.vertices) next))
  next_row = record {
    size = row_length (x * g.vertices) g.vertices next (room x g.vertices (length next) p h.next_size);
    cells = λ y q. let c =
        h.cells x y q (place_below x y g.vertices p q) in (
          c.walk,
          c.least,
          row_cell (x * g.vertices) g.vertices next (room x g.vertices (length next) p h.next_size) y q
              ∙ c.next,
        );
  }

pub cells_put : (g : Graph) (n x y : ℕ) (dist hops next new_dist new_hops new_next : List ℕ) (o : Option Entry)
    → n ≡ g.vertices → x < g.vertices → y < g.vertices → AreCells g (x * g.vertices + y) dist hops next
    → EntryIs g x y o → new_dist ≡ slice_set dist (x * n + y) (dist_cell o)
    → new_hops ≡ slice_set hops (x * n + y) (hops_cell o) → new_next ≡ slice_set next (x * n + y) (next_cell o)
    → AreCells g (x * g.vertices + (y + 1)) new_dist new_hops new_next
cells_put g n x y dist hops next new_dist new_hops new_next o e p q h entry a b c =
    let k = x * g.vertices + (y + 1) in
    let place : x * n + y ≡ x * g.vertices + y = ap (λ j. x * j + y) e in
    let A : List ℕ → Type 0 = λ d. AreCells g k d new_hops new_next in
    let B : List ℕ → Type 0 = λ d. AreCells g k (slice_set dist (x * g.vertices + y) (dist_cell o)) d new_next in
    let C : List ℕ → Type 0 =
    λ d. AreCells g k (slice_set dist (x * g.vertices + y) (dist_cell o))
    (slice_set hops (x * g.vertices + y) (hops_cell o)) d in
    subst A (sym (a ∙ ap (λ i. slice_set dist i (dist_cell o)) place))
    (subst B (sym (b ∙ ap (λ i. slice_set hops i (hops_cell o)) place))
    (subst C (sym (c ∙ ap (λ i. slice_set next i (next_cell o)) place))
    (cells_more g x y dist hops next o p q h entry)))

-- the same rows, as the calls read them
pub dist_row_at : (g f : Graph) (x n : ℕ) (xs dist hops next : List ℕ) → g ≡ f → n ≡ g.vertices → xs ≡ dist
    → x < f.vertices → AreCells g (g.vertices * g.vertices) dist hops next
    → IsDistRow f x (take (x * n + n - x * n) (drop (x * n) xs))
dist_row_at g f x n xs dist hops next same e d p h =
    let q : x < g.vertices = omega (arith, p, ap (λ (k : Graph). k.vertices) same) in
    let P : Graph → Type 0 = λ k. IsDistRow k x (take (x * n + n - x * n) (drop (x * n) xs)) in
    let Q : ℕ → Type 0 = λ m. IsDistRow g x (take (x * m + m - x * m) (drop (x * m) xs)) in
    let R : List ℕ → Type 0 =
    λ ys. IsDistRow g x (take (x * g.vertices + g.vertices - x * g.vertices) (drop (x * g.vertices) ys)) in
    subst P same (subst Q (sym e) (subst R (sym d) (dist_row g x dist hops next q h)))

pub hops_row_at : (g f : Graph) (x n : ℕ) (xs dist hops next : List ℕ) → g ≡ f → n ≡ g.vertices → xs ≡ hops
    → x < f.vertices → AreCells g (g.vertices * g.vertices) dist hops next
    → IsHopsRow f x (take (x * n + n - x * n) (drop (x * n) xs))
hops_row_at g f x n xs dist hops next same e d p h =
    let q : x < g.vertices = omega (arith, p, ap (λ (k : Graph). k.vertices) same) in
    let P : Graph → Type 0 = λ k. IsHopsRow k x (take (x * n + n - x * n) (drop (x * n) xs)) in
    let Q : ℕ → Type 0 = λ m. IsHopsRow g x (take (x * m + m - x * m) (drop (x * m) xs)) in
    let R : List ℕ → Type 0 =
    λ ys. IsHopsRow g x (take (x * g.vertices + g.vertices - x * g.vertices) (drop (x * g.vertices) ys)) in
    subst P same (subst Q (sym e) (subst R (sym d) (hops_row g x dist hops next q h)))

pub next_row_at : (g f : Graph) (x n : ℕ) (xs dist hops next : List ℕ) → g ≡ f → n ≡ g.vertices → xs ≡ next
    → x < f.vertices → AreCells g (g.vertices * g.vertices) dist hops next
    → IsNextRow f x (take (x * n + n - x * n) (drop (x * n) xs))
next_row_at g f x n xs dist hops next same e d p h =
    let q : x < g.vertices = omega (arith, p, ap (λ (k : Graph). k.vertices) same) in
    let P : Graph → Type 0 = λ k. IsNextRow k x (take (x * n + n - x * n) (drop (x * n) xs)) in
    let Q : ℕ → Type 0 = λ m. IsNextRow g x (take (x * m + m - x * m) (drop (x * m) xs)) in
    let R : List ℕ → Type 0 =
    λ ys. IsNextRow g x (take (x * g.vertices + g.vertices - x * g.vertices) (drop (x * g.vertices) ys)) in
    subst P same (subst Q (sym e) (subst R (sym d) (next_row g x dist hops next q h)))
