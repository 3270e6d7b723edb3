-- What is stated after one more edge or entry was put into its cell: for the calls of `Stated`.
use Rattle.std.specs.Prelude.{◌≡◌, ◌≢◌, ℕ, ◌+◌, ◌*◌, ◌<◌, ◌^◌, ◌==◌, ◌&&◌, Bool, true, false, cond, if◌then◌else◌, List, replicate, slice_set, Option, Some, None, refl}
use Rattle.std.specs.Option.{option_map}
use Rattle.std.specs.Ordering.{eq_by_cmp}
use Rattle.std.specs.FinMap as map
use Rattle.std.proofs.Common.{sym, ◌∙◌, ap, subst, arith, length-set}
use Rattle.std.proofs.lemmas.Bool.{ne_eqb}
use Rattle.std.proofs.lemmas.List.{length-replicate}
use Rattle.apsp_model.specs.Graph.{IsEdgeOf, pair_cmp, no_edges, weight_at}
use Rattle.apsp_model.specs.Stated.{Stated, Entry as Stated_entry, IsEntryOf, entry_at}
use Rattle.apsp_model.proofs.Stars.{pairs_total}
use Rattle.graph_store.specs.Making.{IsVertexCount}
use Rattle.version_face.specs.declared.Entry.{Entry}
use Rattle.version_face.specs.Entries.{stated}
use Rattle.certificate.specs.Table.{table_map, table_cell}
use Rattle.certificate.specs.Grammar.{IsWritable}
use Rattle.certificate.specs.Reading.{edge_fits, pair_fits}
use Rattle.certificate.specs.Inside.{entry_cell, stated_in, AreTables, with_stated_edge, with_pair}
use Rattle.certificate.proofs.Spellings.{some_same}
use Rattle.certificate.proofs.Maps.{tied_same}
use Rattle.certificate.proofs.Forms.{edge_from_test, entry_from_test}
use Rattle.certificate.proofs.Tables.{get_inside, map_with, map_none, no_cells, cell_put}

-- what holds of all that a map has, and of one more item, holds after it is put in
kept_by_insert : {V : Type 0} (P : (ℕ × ℕ) × V → Type 0) (m : map.FinMap pair_cmp V) (k : ℕ × ℕ) (w : V)
    → ((q : ℕ × ℕ) (v : V) → map.get m q ≡ Some v → P (q, v)) → P (k, w) → (q : ℕ × ℕ) (v : V)
    → map.get (map.insert m k w) q ≡ Some v → P (q, v)
kept_by_insert {V} P m k w old new q v e =
    at (eq_by_cmp pair_cmp q k) refl (sym (map.get-insert pairs_total m k w q) ∙ e)
  where
    at : (b : Bool) → eq_by_cmp pair_cmp q k ≡ b → cond b (Some w) (map.get m q) ≡ Some v → P (q, v)
    at true t h = subst (λ r. P (r, v)) (sym (tied_same q k t)) (subst (λ x. P (k, x)) (some_same w v h) new)
    at false t h = old q v h

writable-edge : (s : Stated) (e : (ℕ × ℕ) × ℕ) → IsWritable s → edge_fits s.graph.vertices e ≡ true
    → IsWritable (with_stated_edge s e)
writable-edge s e h f = record {
  range = record {
    graph = record {
      some = h.range.graph.some;
      most = h.range.graph.most;
      edges = λ u v w g. kept_by_insert (λ d. IsEdgeOf s.graph.vertices d.0.0 d.0.1 d.1) s.graph.edges e.0 e.1
          (λ q v g. h.range.graph.edges q.0 q.1 v g) (edge_from_test s.graph.vertices e f) (u, v) w g;
    };
    entries = h.range.entries;
  };
  number = h.number;
  dists = h.dists;
}

writable-pair : (s : Stated) (e : (ℕ × ℕ) × Stated_entry) → IsWritable s → pair_fits s.graph.vertices e ≡ true
    → e.1.dist < 10 ^ 18 → IsWritable (with_pair s e)
writable-pair s e h f few = record {
  range = record {
    graph = h.range.graph;
    entries =
        λ x y d g. kept_by_insert (λ d. IsEntryOf s.graph.vertices d.0.0 d.0.1 d.1) s.entries e.0 e.1
        (λ q v g. h.range.entries q.0 q.1 v g) (entry_from_test s.graph.vertices e f) (x, y) d g;
  };
  number = h.number;
  dists = λ x y d g. kept_by_insert (λ d. d.1.dist < 10 ^ 18) s.entries e.0 e.1 (λ q v g. h.dists q.0 q.1 v g) few
      (x, y) d g;
}

pub record IsItemPut (number n : ℕ) (weights : List (Option ℕ)) (entries : List (Option Entry)) (s : Stated) : Type 0
  where
    pub tables : AreTables number n weights entries
    pub states : stated_in number n weights entries ≡ s

pub put_edge : (number n : ℕ) (weights : List (Option ℕ)) (entries : List (Option Entry)) (e : (ℕ × ℕ) × ℕ)
    → AreTables number n weights entries → edge_fits n e ≡ true
    → IsItemPut number n (slice_set weights (e.0.0 * n + e.0.1) (Some e.1)) entries
    (with_stated_edge (stated_in number n weights entries) e)
put_edge number n weights entries e h f =
    let edge = edge_from_test n e f in
    let edges : table_map n (λ u v. table_cell (slice_set weights (e.0.0 * n + e.0.1) (Some e.1)) (u * n + v)) ≡
    map.insert (table_map n (λ u v. table_cell weights (u * n + v))) e.0 e.1 =
    map_with n e.0.0 e.0.1 e.1 (λ u v. table_cell weights (u * n + v))
    (λ u v. table_cell (slice_set weights (e.0.0 * n + e.0.1) (Some e.1)) (u * n + v)) edge.from edge.to
    (cell_put n e.0.0 e.0.1 weights e.1 h.weights_size edge.from edge.to) in
    let states : stated_in number n (slice_set weights (e.0.0 * n + e.0.1) (Some e.1)) entries ≡ with_stated_edge
    (stated_in number n weights entries) e =
    λ i. record {
      number = number;
      graph = record { vertices = n; edges = edges i };
      entries = table_map n
          (λ x y. entry_cell entries (x * n + y));
    } in
    record {
      tables = record {
        weights_size = length-set weights (e.0.0 * n + e.0.1) (Some e.1) ∙ h.weights_size;
        entries_size = h.entries_size;
        writable = subst IsWritable (sym states) (writable-edge (stated_in number n weights entries) e h.writable f);
      };
      states = states;
    }

pub put_pair : (number n : ℕ) (weights : List (Option ℕ)) (entries : List (Option Entry)) (q : ℕ × ℕ) (e : Entry)
    → AreTables number n weights entries → pair_fits n (q, stated e) ≡ true → e.dist < 10 ^ 18
    → IsItemPut number n weights (slice_set entries (q.0 * n + q.1) (Some e))
    (with_pair (stated_in number n weights entries) (q, stated e))
put_pair number n weights entries q e h f few =
    let pair = entry_from_test n (q, stated e) f in
    let put : table_map n (λ x y. entry_cell (slice_set entries (q.0 * n + q.1) (Some e)) (x * n + y)) ≡ map.insert
    (table_map n (λ x y. entry_cell entries (x * n + y))) q (stated e) =
    map_with n q.0 q.1 (stated e) (λ x y. entry_cell entries (x * n + y))
    (λ x y. entry_cell (slice_set entries (q.0 * n + q.1) (Some e)) (x * n + y)) pair.from pair.to
    (λ u v r s. ap (option_map stated) (cell_put n q.0 q.1 entries e h.entries_size pair.from pair.to u v r s)
    ∙ mapped (u == q.0 && v == q.1) (table_cell entries (u * n + v))) in
    let states : stated_in number n weights (slice_set entries (q.0 * n + q.1) (Some e)) ≡ with_pair
    (stated_in number n weights entries) (q, stated e) =
    λ i. record {
      number = number;
      graph = record
          { vertices = n; edges = table_map n (λ u v. table_cell weights (u * n + v)) };
      entries = put i;
    } in
    record {
      tables = record {
        weights_size = h.weights_size;
        entries_size = length-set entries (q.0 * n + q.1) (Some e) ∙ h.entries_size;
        writable =
            subst IsWritable (sym states)
            (writable-pair (stated_in number n weights entries) (q, stated e) h.writable f few);
      };
      states = states;
    }
  where
    mapped : (b : Bool) (o : Option Entry)
        → option_map stated (if b then Some e else o) ≡ (if b then Some (stated e) else option_map stated o)
    mapped true o = refl
    mapped false o = refl

pub put_none : (number n : ℕ) → IsVertexCount n → number < 10 ^ 18
    → IsItemPut number n (replicate (n * n) None) (replicate (n * n) None)
    (record { number = number; graph = no_edges n; entries = map.empty })
put_none number n count small =
    let edges : table_map n (λ u v. table_cell {A = ℕ} (replicate (n * n) None) (u * n + v)) ≡ map.empty =
    map_none n (λ u v. table_cell (replicate (n * n) None) (u * n + v)) (λ u v p q. no_cells (n * n) (u * n + v)) in
    let entries : table_map n (λ x y. entry_cell (replicate (n * n) None) (x * n + y)) ≡ map.empty =
    map_none n (λ x y. entry_cell (replicate (n * n) None) (x * n + y))
    (λ u v p q. ap (option_map stated) (no_cells (n * n) (u * n + v))) in
    let states : stated_in number n (replicate (n * n) None) (replicate (n * n) None) ≡ record
    { number = number; graph = no_edges n; entries = map.empty } =
    λ i. record { number = number; graph = record { vertices = n; edges = edges i }; entries = entries i } in
    record {
      tables = record {
        weights_size = length-replicate (n * n) None;
        entries_size = length-replicate (n * n) None;
        writable = subst IsWritable (sym states) (record {
          range = record {
            graph = record {
              some = count.some;
              most = count.most;
              edges = λ u v w e. absurd
                  (no_weight w (sym (map.get-empty pair_cmp (u, v)) ∙ e));
            };
            entries = λ x y d e. absurd (no_entry d (sym (map.get-empty pair_cmp (x, y)) ∙ e));
          };
          number = small;
          dists = λ x y d e. absurd (no_entry d (sym (map.get-empty pair_cmp (x, y)) ∙ e));
        });
      };
      states = states;
    }
  where
    no_weight : (w : ℕ) → None ≡ Some w → ⊥
    no_weight w e = cc

    no_entry : (d : Stated_entry) → None ≡ Some d → ⊥
    no_entry d e = cc

-- tables of empty cells state no edge and no entry
pub made_none : (number n : ℕ) (weights : List (Option ℕ)) (entries : List (Option Entry)) → IsVertexCount n
    → number < 10 ^ 18 → weights ≡ replicate (n * n) None → entries ≡ replicate (n * n) None
    → IsItemPut number n weights entries (record { number = number; graph = no_edges n; entries = map.empty })
made_none number n weights entries count small w e =
    let P : List (Option ℕ) → Type 0 =
    λ ws. IsItemPut number n ws entries (record { number = number; graph = no_edges n; entries = map.empty }) in
    let Q : List (Option Entry) → Type 0 =
    λ es. IsItemPut number n (replicate (n * n) None) es
    (record { number = number; graph = no_edges n; entries = map.empty }) in
    subst P (sym w) (subst Q (sym e) (put_none number n count small))

-- the same, where the value before is named
pub put_edge_in : (number n : ℕ) (weights : List (Option ℕ)) (entries : List (Option Entry)) (s : Stated)
    (e : (ℕ × ℕ) × ℕ) → stated_in number n weights entries ≡ s → AreTables number n weights entries
    → edge_fits s.graph.vertices e ≡ true
    → IsItemPut number n (slice_set weights (e.0.0 * n + e.0.1) (Some e.1)) entries (with_stated_edge s e)
put_edge_in number n weights entries s e is h f =
    let vertices : s.graph.vertices ≡ n = ap (λ (t : Stated). t.graph.vertices) (sym is) in
    subst (λ t. IsItemPut number n (slice_set weights (e.0.0 * n + e.0.1) (Some e.1)) entries (with_stated_edge t e)) is
    (put_edge number n weights entries e h (ap (λ k. edge_fits k e) (sym vertices) ∙ f))

-- an entry that is put into its cell is stated
pub put_pair_in : (number n : ℕ) (weights : List (Option ℕ)) (entries : List (Option Entry)) (s : Stated) (q : ℕ × ℕ)
    (e : Entry) → stated_in number n weights entries ≡ s → AreTables number n weights entries
    → pair_fits s.graph.vertices (q, stated e) ≡ true → e.dist < 10 ^ 18
    → IsItemPut number n weights (slice_set entries (q.0 * n + q.1) (Some e)) (with_pair s (q, stated e))
put_pair_in number n weights entries s q e is h f few =
    let vertices : s.graph.vertices ≡ n = ap (λ (t : Stated). t.graph.vertices) (sym is) in
    subst (λ t. IsItemPut number n weights (slice_set entries (q.0 * n + q.1) (Some e)) (with_pair t (q, stated e))) is
    (put_pair number n weights entries q e h (ap (λ k. pair_fits k (q, stated e)) (sym vertices) ∙ f) few)

-- what is read off a cell
pub weight_in : (number n : ℕ) (weights : List (Option ℕ)) (entries : List (Option Entry)) (s : Stated) (u v : ℕ)
    → stated_in number n weights entries ≡ s → u < s.graph.vertices → v < s.graph.vertices
    → table_cell weights (u * n + v) ≡ weight_at s.graph u v
weight_in number n weights entries s u v is p q =
    let vertices : n ≡ s.graph.vertices = ap (λ (t : Stated). t.graph.vertices) is in
    sym (get_inside n (λ u v. table_cell weights (u * n + v)) u v (omega (arith, p, vertices))
    (omega (arith, q, vertices))) ∙ ap (λ (t : Stated). weight_at t.graph u v) is

-- the cell of a pair has its entry
pub entry_in : (number n : ℕ) (weights : List (Option ℕ)) (entries : List (Option Entry)) (s : Stated) (x y : ℕ)
    → stated_in number n weights entries ≡ s → x < s.graph.vertices → y < s.graph.vertices → x ≢ y
    → entry_cell entries (x * n + y) ≡ entry_at s x y
entry_in number n weights entries s x y is p q apart =
    let vertices : n ≡ s.graph.vertices = ap (λ (t : Stated). t.graph.vertices) is in
    sym (get_inside n (λ x y. entry_cell entries (x * n + y)) x y (omega (arith, p, vertices))
    (omega (arith, q, vertices))) ∙ ap (λ (t : Stated). map.get t.entries (x, y)) is
    ∙ ap (λ b. if b then Some (record { dist = 0; hops = 0; next = x }) else map.get s.entries (x, y))
    (sym (ne_eqb x y apart))
