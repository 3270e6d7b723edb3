-- Graphs as rows of cells: for the calls of `Graph`.
use Rattle.std.specs.Prelude.{◌≡◌, ℕ, ◌+◌, ◌-◌, ◌*◌, ◌<◌, ◌≤◌, ◌==◌, ◌&&◌, nat_lt, Bool, true, false, if◌then◌else◌, List, ◌++◌, length, take, drop, replicate, Option, Some, None, refl}
use Rattle.std.specs.FinMap as map
use Rattle.std.proofs.Common.{sym, ◌∙◌, ap, subst, inl, inr, arith}
use Rattle.std.proofs.lemmas.Bool.{cases_eq}
use Rattle.std.proofs.lemmas.Bool.Decides.{nat_tests}
use Rattle.std.proofs.lemmas.List.{length-replicate}
use Rattle.std.proofs.lemmas.Nat.{mul-le}
use Rattle.apsp_model.specs.Graph.{IsGraph, pair_cmp, weight_at, no_edges}
use Rattle.apsp_model.specs.Star.{Star, IsStar, touches, star_of, star_at}
use Rattle.apsp_model.proofs.Stars.{pairs_total, exact_pair, same_graph, weight-star_of, weight-star_at, is_graph-star_of, is_star-star_at}
use Rattle.graph_store.specs.Rows.{cell_at, graph_of_rows, star_of_rows, IsGraphRows, IsStarRows, HasRow, HasColumn, HasStar, IsColumn}
use Rattle.graph_store.specs.Making.{IsVertexCount}
use Rattle.graph_store.proofs.Tables.{get_inside, get_outside, cases_inside}
use Rattle.graph_store.proofs.Cells.{no_cells, written, length-part, cell-part}

pub weight-rows : (n : ℕ) (cells : List (Option ℕ)) (u v : ℕ) → u < n → v < n
    → weight_at (graph_of_rows n cells) u v ≡ cell_at cells (u * n + v)
weight-rows n cells u v p q = get_inside n (λ a b. cell_at cells (a * n + b)) u v p q

pub no_weight : (n : ℕ) (cells : List (Option ℕ)) (u v : ℕ) → (u < n → v < n → ⊥)
    → weight_at (graph_of_rows n cells) u v ≡ None
no_weight n cells u v out = get_outside n (λ a b. cell_at cells (a * n + b)) u v out

pub graph_of-no_cells : (n k : ℕ) → graph_of_rows n (replicate k None) ≡ no_edges n
graph_of-no_cells n k =
    same_graph (graph_of_rows n (replicate k None)) (no_edges n) refl (λ a b. elim (cases_inside n a b) [
      | inl i ↦ weight-rows n (replicate k None) a b i.0 i.1 ∙ no_cells k (a * n + b)
          ∙ sym (map.get-empty pair_cmp (a, b))
      | inr o ↦ no_weight n (replicate k None) a b o ∙ sym (map.get-empty pair_cmp (a, b))
    ])

pub is_graph-no_edges : (n : ℕ) → IsVertexCount n → IsGraph (no_edges n)
is_graph-no_edges n count = record {
  some = count.some;
  most = count.most;
  edges = λ u v w e. absurd (none w (sym (map.get-empty pair_cmp (u, v)) ∙ e));
}
  where
    none : (w : ℕ) → None ≡ Some w → ⊥
    none w e = cc

-- the edges of a star of rows
pub edge-rows : (n v : ℕ) (out into : List (Option ℕ)) (a b : ℕ) → a < n → b < n
    → map.get (star_of_rows n v out into).edges (a, b) ≡
    (if b == v then cell_at into a else (if a == v then cell_at out b else None))
edge-rows n v out into a b p q =
    get_inside n (λ a b. if b == v then cell_at into a else (if a == v then cell_at out b else None)) a b p q

pub no_edge : (n v : ℕ) (out into : List (Option ℕ)) (a b : ℕ) → (a < n → b < n → ⊥)
    → map.get (star_of_rows n v out into).edges (a, b) ≡ None
no_edge n v out into a b o =
    get_outside n (λ a b. if b == v then cell_at into a else (if a == v then cell_at out b else None)) a b o

-- a row and a column written one after the other leave the graph that the star leaves
pub star_of-rows : (n v : ℕ) (out into old mid new : List (Option ℕ)) → HasRow n v out old mid
    → HasColumn n v n into mid new → graph_of_rows n new ≡ star_of (graph_of_rows n old) (star_of_rows n v out into)
star_of-rows n v out into old mid new row column =
    same_graph (graph_of_rows n new) (star_of (graph_of_rows n old) (star_of_rows n v out into)) refl
    (λ a b. elim (cases_inside n a b) [
      | inl i ↦ weight-rows n new a b i.0 i.1 ∙ column.cells a b i.0 i.1
          ∙ ap (λ o. if b == v && nat_lt a n then cell_at into a else o) (row.cells a b i.0 i.1)
          ∙ chosen a b (cell_at into a) (cell_at out b) (cell_at old (a * n + b)) i.0
          ∙ ap (λ o. if touches v (a, b) then o else cell_at old (a * n + b)) (sym (edge-rows n v out into a b i.0 i.1))
          ∙ ap (λ o. if touches v (a, b) then map.get (star_of_rows n v out into).edges (a, b) else o)
          (sym (weight-rows n old a b i.0 i.1))
          ∙ sym (weight-star_of (graph_of_rows n old) (star_of_rows n v out into) a b)
      | inr o ↦ no_weight n new a b o
          ∙ neither (touches v (a, b)) _ _ (no_edge n v out into a b o) (no_weight n old a b o)
          ∙ sym (weight-star_of (graph_of_rows n old) (star_of_rows n v out into) a b)
    ])
  where
    chosen : (a b : ℕ) (x y z : Option ℕ) → a < n
        → (if b == v && nat_lt a n then x else (if a == v then y else z)) ≡
        (if touches v (a, b) then (if b == v then x else (if a == v then y else None)) else z)
    chosen a b x y z p = grind (arith, nat_tests)

    neither : (c : Bool) (o r : Option ℕ) → o ≡ None → r ≡ None → None ≡ (if c then o else r)
    neither true o r p q = sym p
    neither false o r p q = sym q

-- two stars of one vertex with the same edges are one
pub same_star : (s t : Star) → s.vertices ≡ t.vertices → s.vertex ≡ t.vertex
    → ((a b : ℕ) → map.get s.edges (a, b) ≡ map.get t.edges (a, b)) → s ≡ t
same_star s t n v e =
    let edges : s.edges ≡ t.edges = map.same_map pairs_total exact_pair s.edges t.edges (λ q. e q.0 q.1) in
    λ i. record { vertices = n i; vertex = v i; edges = edges i }

-- the row and the column of a vertex are its star
pub star_at-rows : (n v : ℕ) (cells out into : List (Option ℕ))
    → ((b : ℕ) → b < n → cell_at out b ≡ cell_at cells (v * n + b)) → IsColumn n v n cells into
    → star_of_rows n v out into ≡ star_at (graph_of_rows n cells) v
star_at-rows n v cells out into row column =
    same_star (star_of_rows n v out into) (star_at (graph_of_rows n cells) v) refl refl
    (λ a b. elim (cases_inside n a b) [
      | inl i ↦ edge-rows n v out into a b i.0 i.1
          ∙ ap (λ o. if b == v then o else (if a == v then cell_at out b else None)) (column.cells a i.0)
          ∙ ap (λ o. if b == v then cell_at cells (a * n + v) else (if a == v then o else None)) (row b i.1)
          ∙ chosen a b
          ∙ ap (λ o. if touches v (a, b) then o else None) (sym (weight-rows n cells a b i.0 i.1))
          ∙ sym (weight-star_at (graph_of_rows n cells) v a b)
      | inr o ↦ no_edge n v out into a b o
          ∙ neither (touches v (a, b)) _ (no_weight n cells a b o)
          ∙ sym (weight-star_at (graph_of_rows n cells) v a b)
    ])
  where
    first : (a : ℕ) (x y : Option ℕ) → (if v == v then x else (if a == v then y else None)) ≡
        (if touches v (a, v) then x else None)
    first a x y = grind (arith, nat_tests)

    second : (b : ℕ) (x y : Option ℕ) → (b ≡ v → ⊥)
        → (if b == v then x else (if v == v then y else None)) ≡ (if touches v (v, b) then y else None)
    second b x y there = grind (arith, nat_tests)

    third : (a b : ℕ) (x y z : Option ℕ) → (b ≡ v → ⊥) → (a ≡ v → ⊥)
        → (if b == v then x else (if a == v then y else None)) ≡ (if touches v (a, b) then z else None)
    third a b x y z there apart = grind (arith, nat_tests)

    chosen : (a b : ℕ) → (if b == v then cell_at cells (a * n + v) else
        (if a == v then cell_at cells (v * n + b) else None)) ≡
        (if touches v (a, b) then cell_at cells (a * n + b) else None)
    chosen a b = elim (cases_eq b v) [
      | inl here ↦ subst (λ j. (if j == v then cell_at cells (a * n + v) else
          (if a == v then cell_at cells (v * n + j) else None)) ≡
          (if touches v (a, j) then cell_at cells (a * n + j) else None)) (sym here)
          (first a (cell_at cells (a * n + v)) (cell_at cells (v * n + v)))
      | inr there ↦ elim (cases_eq a v) [
        | inl also ↦ subst (λ j. (if b == v then cell_at cells (j * n + v) else
            (if j == v then cell_at cells (v * n + b) else None)) ≡
            (if touches v (j, b) then cell_at cells (j * n + b) else None)) (sym also)
            (second b (cell_at cells (v * n + v)) (cell_at cells (v * n + b)) there)
        | inr apart ↦ third a b (cell_at cells (a * n + v)) (cell_at cells (v * n + b)) (cell_at cells (a * n + b))
            there apart
      ]
    ]

    neither : (c : Bool) (o : Option ℕ) → o ≡ None → None ≡ (if c then o else None)
    neither true o p = sym p
    neither false o p = refl

pub empty_rows : (n : ℕ) → IsVertexCount n → IsGraphRows n (replicate (n * n) None)
empty_rows n count = record {
  size = length-replicate (n * n) None;
  graph = subst IsGraph (sym (graph_of-no_cells n (n * n))) (is_graph-no_edges n count);
}

-- what a graph owes after a star was written
pub record IsApplied (n : ℕ) (old new : List (Option ℕ)) (star : Star) : Type 0 where
  pub rows : IsGraphRows n new
  pub after : graph_of_rows n new ≡ star_of (graph_of_rows n old) star

applied_here : (n v : ℕ) (out into old new : List (Option ℕ)) → IsGraphRows n old → IsStarRows n v out into
    → HasStar n v out into old new → IsApplied n old new (star_of_rows n v out into)
applied_here n v out into old new graph star put = record {
  rows = record {
    size = put.second.size ∙ put.first.size
        ∙ graph.size;
    graph = subst IsGraph (sym after)
        (is_graph-star_of (graph_of_rows n old) (star_of_rows n v out into) graph.graph star.star refl);
  };
  after = after;
}
  where
    after : graph_of_rows n new ≡ star_of (graph_of_rows n old) (star_of_rows n v out into)
    after = star_of-rows n v out into old put.between new put.first put.second

-- the same, where the star is read and the cells are written through slices
pub applied : (n m v k : ℕ) (out into old row column cells new : List (Option ℕ)) → IsGraphRows n old
    → IsStarRows m v out into → m ≡ n → row ≡ out → column ≡ into → cells ≡ old
    → HasStar (length row) v row column cells new → k ≡ length old
    → IsApplied n old (take k (new ++ drop (length new) old)) (star_of_rows m v out into)
applied n m v k out into old row column cells new graph star same r i o put size =
    let star_here : IsStarRows n v out into = subst (λ j. IsStarRows j v out into) same star in
    let row_size : length row ≡ n = ap length r ∙ star_here.out_size in
    let put_here : HasStar n v out into old new =
    subst (λ xs. HasStar n v out into xs new) o
    (subst (λ xs. HasStar n v out xs cells new) i
    (subst (λ xs. HasStar n v xs column cells new) r
    (subst (λ j. HasStar j v row column cells new) row_size put))) in
    let whole : take k (new ++ drop (length new) old) ≡ new =
    written old new k size (put_here.second.size ∙ put_here.first.size) in
    subst (λ xs. IsApplied n old xs (star_of_rows m v out into)) (sym whole)
    (subst (λ j. IsApplied n old new (star_of_rows j v out into)) (sym same)
    (applied_here n v out into old new graph star_here put_here))

-- what a star owes after it was read off a graph
pub record IsRead (n v : ℕ) (cells out into : List (Option ℕ)) : Type 0 where
  pub rows : IsStarRows n v out into
  pub star : star_of_rows n v out into ≡ star_at (graph_of_rows n cells) v

read_here : (n v : ℕ) (cells out into : List (Option ℕ)) → IsGraphRows n cells → v < n → length out ≡ n
    → ((b : ℕ) → b < n → cell_at out b ≡ cell_at cells (v * n + b)) → IsColumn n v n cells into
    → IsRead n v cells out into
read_here n v cells out into graph inside size row column = record {
  rows = record {
    out_size = size;
    into_size = column.size;
    no_loop = row v inside
        ∙ sym (weight-rows n cells v v inside inside)
        ∙ no_self (weight_at (graph_of_rows n cells) v v) refl;
    star = subst IsStar (sym star)
        (is_star-star_at (graph_of_rows n cells) v graph.graph inside);
  };
  star = star;
}
  where
    star : star_of_rows n v out into ≡ star_at (graph_of_rows n cells) v
    star = star_at-rows n v cells out into row column

    no_self : (o : Option ℕ) → weight_at (graph_of_rows n cells) v v ≡ o → o ≡ None
    no_self None e = refl
    no_self (Some w) e = absurd ((graph.graph.edges v v w e).apart refl)

-- the same, where the column is written through a slice
pub read_off : (n m v k : ℕ) (cells read out into into' column : List (Option ℕ)) → IsGraphRows n cells → m ≡ n → v < n
    → out ≡ take (v * n + n - v * n) (drop (v * n) cells) → read ≡ cells → into' ≡ into → length into ≡ m
    → IsColumn (length into') v (length into') read column → k ≡ length into
    → IsRead m v cells out (take k (column ++ drop (length column) into))
read_off n m v k cells read out into into' column graph same inside o r i into_size col size =
    let col_size : length into' ≡ n = ap length i ∙ into_size ∙ same in
    let here : IsColumn n v n cells column =
    subst (λ xs. IsColumn n v n xs column) r (subst (λ j. IsColumn j v j read column) col_size col) in
    let whole : take k (column ++ drop (length column) into) ≡ column =
    written into column k size (omega (arith, here.size, into_size, same)) in
    let room : v * n + n ≤ length cells =
    omega (arith, mul-le (v + 1) n n n (omega (arith, inside)) (omega arith), graph.size) in
    subst (λ xs. IsRead m v cells out xs) (sym whole)
    (subst (λ j. IsRead j v cells out column) (sym same)
    (read_here n v cells out column graph inside (ap length o ∙ length-part (v * n) n cells room)
    (λ b p. ap (λ xs. cell_at xs b) o ∙ cell-part (v * n) n cells room b p) here))
