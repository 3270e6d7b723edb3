-- A table of more rows with the cells of another: for `put_rows` and `Graph::widen_into`.
use Rattle.std.specs.Prelude.{◌≡◌, ◌≢◌, ℕ, ◌+◌, ◌*◌, ◌<◌, ◌≤◌, ◌⊎◌, ◌&&◌, nat_lt, if◌then◌else◌, List, ◌++◌, length, take, drop, slice_set, Option, Some, None, refl}
use Rattle.std.proofs.Common.{sym, ◌∙◌, ap, subst, inl, inr, arith, get_or-set_other, get_or-set_same, length-set}
use Rattle.std.proofs.lemmas.Bool.{cases_eq, cases_lt}
use Rattle.std.proofs.lemmas.Bool.Decides.{nat_tests}
use Rattle.std.proofs.lemmas.Nat.{mul-add-lt, same_from_place}
use Rattle.apsp_model.specs.Graph.{Graph, IsGraph, IsEdgeOf, widened, weight_at}
use Rattle.apsp_model.proofs.Stars.{same_graph}
use Rattle.graph_store.specs.Rows.{cell_at, graph_of_rows, IsGraphRows, wide_cell, HasRowsUpto}
use Rattle.graph_store.proofs.Cells.{written}
use Rattle.graph_store.proofs.Graphs.{weight-rows, no_weight}
use Rattle.graph_store.proofs.Tables.{cases_inside}

pub rows_none : (m n : ℕ) (rows wide : List (Option ℕ)) → length wide ≡ m * m → HasRowsUpto m n 0 0 rows wide
rows_none m n rows wide size = record {
  size = size;
  cells = λ a b p q before. absurd (elim before [ inl less ↦ omega (arith, less) | inr same ↦ omega (arith, same.1) ]);
}

pub rows_more : (m n u v : ℕ) (rows wide : List (Option ℕ)) → u < m → v < m → HasRowsUpto m n u v rows wide
    → HasRowsUpto m n u (v + 1) rows (slice_set wide (u * m + v) (wide_cell n rows u v))
rows_more m n u v rows wide inside below h = record {
  size = length-set wide (u * m + v) (wide_cell n rows u v) ∙ h.size;
  cells = λ a b p q before. elim (cases_eq (a * m + b) (u * m + v)) [
    | inl same ↦ at a b (same_from_place a b u v m q below same)
    | inr other ↦ get_or-set_other wide (u * m + v) (a * m + b) (wide_cell n rows u v) None other
        ∙ h.cells a b p q (elim before [
          | inl less ↦ inl less
          | inr row ↦ elim (cases_lt b v) [
            | inl less ↦ inr (row.0, less)
            | inr more ↦ absurd (other (λ i. row.0 i * m + last b v row.1 more i))
          ]
        ])
  ];
}
  where
    last : (b v : ℕ) → b < v + 1 → v ≤ b → b ≡ v
    last b v l k = omega (arith, l, k)

    place : u * m + v < length wide
    place = omega (arith, mul-add-lt u m v m inside below, h.size)

    at : (a b : ℕ) → (a ≡ u) × (b ≡ v) → cell_at (slice_set wide (u * m + v) (wide_cell n rows u v)) (a * m + b) ≡
        wide_cell n rows a b
    at a b e =
        subst (λ i. cell_at (slice_set wide (u * m + v) (wide_cell n rows u v)) (i * m + b) ≡ wide_cell n rows i b)
        (sym e.0)
        (subst (λ j. cell_at (slice_set wide (u * m + v) (wide_cell n rows u v)) (u * m + j) ≡ wide_cell n rows u j)
        (sym e.1)
        (get_or-set_same wide (u * m + v) (wide_cell n rows u v) None place))

pub row_done : (m n u : ℕ) (rows wide : List (Option ℕ)) → HasRowsUpto m n u m rows wide
    → HasRowsUpto m n (u + 1) 0 rows wide
row_done m n u rows wide h = record {
  size = h.size;
  cells = λ a b p q before. h.cells a b p q (elim before [
    | inl less ↦ elim (cases_lt a u) [ inl earlier ↦ inl earlier | inr here ↦ inr (omega (arith, less, here), q) ]
    | inr none ↦ absurd (omega (arith, none.1))
  ]);
}

-- ---- the graph

wide_inside : (n : ℕ) (rows : List (Option ℕ)) (a b : ℕ) → a < n → b < n
    → wide_cell n rows a b ≡ cell_at rows (a * n + b)
wide_inside n rows a b p q = grind (arith, nat_tests)

wide_beyond : (n : ℕ) (rows : List (Option ℕ)) (a b : ℕ) → (a < n → b < n → ⊥) → wide_cell n rows a b ≡ None
wide_beyond n rows a b out = elim (cases_lt a n) [
  | inr more ↦ grind (arith, nat_tests)
  | inl less ↦ elim (cases_lt b n) [ inl also ↦ absurd (out less also) | inr more ↦ grind (arith, nat_tests) ]
]

pub graph_wider : (m n : ℕ) (rows wide : List (Option ℕ)) → n ≤ m → HasRowsUpto m n m 0 rows wide
    → graph_of_rows m wide ≡ widened (graph_of_rows n rows) m
graph_wider m n rows wide fewer h = same_graph (graph_of_rows m wide) (widened (graph_of_rows n rows) m) refl weights
  where
    weights : (a b : ℕ) → weight_at (graph_of_rows m wide) a b ≡ weight_at (graph_of_rows n rows) a b
    weights a b = elim (cases_inside m a b) [
      | inl both ↦ weight-rows m wide a b both.0 both.1 ∙ h.cells a b both.0 both.1 (inl both.0)
          ∙ elim (cases_inside n a b) [
            | inl old ↦ wide_inside n rows a b old.0 old.1 ∙ sym (weight-rows n rows a b old.0 old.1)
            | inr out ↦ wide_beyond n rows a b out ∙ sym (no_weight n rows a b out)
          ]
      | inr out ↦ no_weight m wide a b out
          ∙ sym (no_weight n rows a b (λ p q. out (omega (arith, p, fewer)) (omega (arith, q, fewer))))
    ]

pub rows_wider : (m n : ℕ) (rows old wide : List (Option ℕ)) → n ≤ m → IsGraphRows n rows → IsGraphRows m old
    → HasRowsUpto m n m 0 rows wide → IsGraphRows m wide
rows_wider m n rows old wide fewer before room h = record {
  size = h.size;
  graph = subst IsGraph (sym (graph_wider m n rows wide fewer h)) (record {
    some = room.graph.some;
    most = room.graph.most;
    edges = λ u v w e.
        let r : IsEdgeOf n u v w = before.graph.edges u v w e in
        record {
          from = (let l : u < n = r.from in omega (arith, l, fewer));
          to
              = (let l : v < n = r.to in omega (arith, l, fewer));
          apart = r.apart;
          most = r.most;
        };
  });
}

-- what a graph owes after the rows of another were written into it
pub record IsWider (m n : ℕ) (rows new : List (Option ℕ)) : Type 0 where
  pub rows_of : IsGraphRows m new
  pub after : graph_of_rows m new ≡ widened (graph_of_rows n rows) m

-- the same, where the rows are read and written through slices
pub wider : (m n k : ℕ) (rows read old new : List (Option ℕ)) → n ≤ m → IsGraphRows n rows → IsGraphRows m old
    → read ≡ rows → HasRowsUpto m n m 0 read new → k ≡ length old
    → IsWider m n rows (take k (new ++ drop (length new) old))
wider m n k rows read old new fewer graph room r put size =
    let put_here : HasRowsUpto m n m 0 rows new = subst (λ xs. HasRowsUpto m n m 0 xs new) r put in
    let whole : take k (new ++ drop (length new) old) ≡ new = written old new k size (put_here.size ∙ sym room.size) in
    subst (IsWider m n rows) (sym whole) (record {
      rows_of = rows_wider m n rows old new fewer graph room put_here;
      after = graph_wider m n rows new fewer
          put_here;
    })
