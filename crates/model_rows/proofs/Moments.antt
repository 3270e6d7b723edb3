-- What is found for one moment by a test of what is historical in it: for the examples with a mend and with a grow.
use Rattle.std.specs.Prelude.{ℕ, ◌<◌, ◌↔◌, Bool, false, ◌||◌, ◌&&◌, IsTrue, List, [], ◌∷◌, length, refl, Contains, nat_lt}
use Rattle.std.specs.List.{filter}
use Rattle.std.proofs.Common.{sym, subst, arith, inl, inr}
use Rattle.std.proofs.lemmas.Bool.{cases_lt, or_cases, or_left, or_right, and_from, and_parts, ltb-true, lt-ltb}
use Rattle.apsp_model.specs.Graph.{no_edges, widened}
use Rattle.apsp_model.specs.Command.{graph_of}
use Rattle.apsp_model.specs.Part.{IsProperPart, IsClosedUnderParts, left_part, right_part}
use Rattle.apsp_model.specs.Local.{IsShortest, HistGrow, IsLocal}
use Rattle.apsp_model.specs.Kept.{Moment, IsWithEdge, IsHistorical}
use Rattle.apsp_model.specs.Counts.{CountIs}
use Rattle.apsp_model.proofs.Locals.{parts_by_ends, left_is_part, right_is_part, step_closed, singles_closed}
use Rattle.apsp_model.proofs.Leasts.{least_closed}
use Rattle.apsp_model.proofs.Deciding.{Known, Made, simple_test, walk_test, vertex_test, least_test, historical_test, walks, simple_test_is, walk_test_is, least_test_is, in_walks}
use Rattle.apsp_model.proofs.Finding.{after, vertex_test_is, in_filter, once_test, once_from}
use Rattle.model_rows.specs.Networks.{Row, updates}
use Rattle.model_rows.proofs.Rows.{made_from, historical_are, weights_from, weights_is, moment_is, edge_test, edge_test_is}

-- a test of what is historical, and the graph by a test of its weights
abbrev pub parts_test : (List ℕ → Bool) → List ℕ → Bool
parts_test t p = nat_lt (length p) 2 || (t (left_part p) && t (right_part p))

abbrev pub local_test : Known → (List ℕ → Bool) → List ℕ → Bool
local_test k t p = simple_test p && (walk_test k.graph.vertices k.weight p && parts_test t p)

abbrev pub locals : Known → (List ℕ → Bool) → (List ℕ → Bool) → List (List ℕ)
locals k t s = filter (λ p. local_test k t p && s p) (walks k.graph.vertices k.weight)

module _ (k : Known) (t : List ℕ → Bool) (H : List ℕ → Type 0) (is : (p : List ℕ) → IsTrue (t p) ↔ H p)
    (closed : IsClosedUnderParts H) where
  parts_test_is : (p : List ℕ) → IsTrue (parts_test t p) ↔ ((q : List ℕ) → IsProperPart q p → H q)
  parts_test_is p = (
    λ h q part. elim (cases_lt (length p) 2) [
      | inl short ↦ absurd (none short q part)
      | inr long ↦ elim (or_cases (nat_lt (length p) 2) (t (left_part p) && t (right_part p)) h) [
        | inl short ↦ absurd (let l : length p < 2 = ltb-true (length p) 2 short in omega arith)
        | inr both ↦
            let ends : IsTrue (t (left_part p)) × IsTrue (t (right_part p)) =
            and_parts (t (left_part p)) (t (right_part p)) both in
            (parts_by_ends H closed p long).1 ((is (left_part p)).0 ends.0, (is (right_part p)).0 ends.1) q part
      ]
    ],
    λ all. elim (cases_lt (length p) 2) [
      | inl short ↦ or_left (nat_lt (length p) 2) (t (left_part p) && t (right_part p)) (lt-ltb (length p) 2 short)
      | inr long ↦ or_right (nat_lt (length p) 2) (t (left_part p) && t (right_part p))
          (and_from (t (left_part p)) (t (right_part p)) ((is (left_part p)).1 (all (left_part p) (left_is_part p long)))
          ((is (right_part p)).1 (all (right_part p) (right_is_part p long))))
    ],
  )
    where
      none : length p < 2 → (q : List ℕ) → IsProperPart q p → ⊥
      none short q part =
          let s : 0 < length q = part.part.some in let l : length q < length p = part.shorter in omega arith

  pub local_test_is : (p : List ℕ) → IsTrue (local_test k t p) ↔ IsLocal k.graph H p
  local_test_is p = (
    λ h.
        let a : IsTrue (simple_test p) × IsTrue (walk_test k.graph.vertices k.weight p && parts_test t p) =
        and_parts (simple_test p) (walk_test k.graph.vertices k.weight p && parts_test t p) h in
        let b : IsTrue (walk_test k.graph.vertices k.weight p) × IsTrue (parts_test t p) =
        and_parts (walk_test k.graph.vertices k.weight p) (parts_test t p) a.1 in
        record { simple = (simple_test_is p).0 a.0; walk = (walk_test_is k p).0 b.0; parts = (parts_test_is p).0 b.1 },
    λ l. and_from (simple_test p) (walk_test k.graph.vertices k.weight p && parts_test t p) ((simple_test_is p).1 l.simple)
        (and_from (walk_test k.graph.vertices k.weight p) (parts_test t p) ((walk_test_is k p).1 l.walk)
        ((parts_test_is p).1 l.parts)),
  )

  pub locals_are : (s : List ℕ → Bool) (p : List ℕ) → Contains (locals k t s) p ↔ (IsLocal k.graph H p × IsTrue (s p))
  locals_are s p =
      let filtered : Contains (locals k t s) p ↔
      (Contains (walks k.graph.vertices k.weight) p × IsTrue (local_test k t p && s p)) =
      in_filter (λ p. local_test k t p && s p) (walks k.graph.vertices k.weight) p in (
        λ c. let both : IsTrue (local_test k t p) × IsTrue (s p) =
            and_parts (local_test k t p) (s p) (filtered.0 c).1 in ((local_test_is p).0 both.0, both.1),
        λ h. filtered.1 (
          in_walks k p h.0.walk h.0.simple,
          and_from (local_test k t p) (s p) ((local_test_is p).1 h.0) h.1,
        ),
      )

  pub locals_count : (s : List ℕ → Bool) (P : List ℕ → Type 0)
      → ((p : List ℕ) → (IsLocal k.graph H p × IsTrue (s p)) ↔ P p) → IsTrue (once_test (locals k t s))
      → CountIs P (length (locals k t s))
  locals_count s P e once = record {
    lists = locals k t s;
    once = once_from (locals k t s) once;
    exact = λ p. (λ c. (e p).0 ((locals_are s p).0 c), λ h. (locals_are s p).1 ((e p).1 h));
    length_is = refl;
  }

  pub edges_count : IsTrue (once_test (locals k t edge_test))
      → CountIs (λ p. IsLocal k.graph H p × IsWithEdge p) (length (locals k t edge_test))
  edges_count = locals_count edge_test (λ p. IsLocal k.graph H p × IsWithEdge p)
      (λ p. (λ h. (h.0, (edge_test_is p).0 h.1), λ h. (h.0, (edge_test_is p).1 h.1)))

  pub historical_count : IsTrue (once_test (locals k t (λ p. edge_test p && t p)))
      → CountIs (λ p. IsLocal k.graph H p × IsWithEdge p × H p) (length (locals k t (λ p. edge_test p && t p)))
  historical_count = locals_count (λ p. edge_test p && t p) (λ p. IsLocal k.graph H p × IsWithEdge p × H p) (λ p. (
    λ h. let both : IsTrue (edge_test p) × IsTrue (t p) = and_parts (edge_test p) (t p) h.1 in
        (h.0, (edge_test_is p).0 both.0, (is p).0 both.1),
    λ h. (h.0, and_from (edge_test p) (t p) ((edge_test_is p).1 h.1) ((is p).1 h.2)),
  ))

-- ---- a mend behind the stars

abbrev pub shortest_test : Known → List ℕ → Bool
shortest_test k p = vertex_test k.graph.vertices p || least_test k.graph.vertices k.weight p

pub shortest_test_is : (k : Known) (p : List ℕ) → IsTrue (shortest_test k p) ↔ IsShortest k.graph p
shortest_test_is k p = (
  λ h. elim (or_cases (vertex_test k.graph.vertices p) (least_test k.graph.vertices k.weight p) h)
      [ inl s ↦ inl ((vertex_test_is k.graph.vertices p).0 s) | inr l ↦ inr ((least_test_is k p).0 l) ],
  λ h. elim h [
    | inl s ↦ or_left (vertex_test k.graph.vertices p) (least_test k.graph.vertices k.weight p)
        ((vertex_test_is k.graph.vertices p).1 s)
    | inr l ↦ or_right (vertex_test k.graph.vertices p) (least_test k.graph.vertices k.weight p)
        ((least_test_is k p).1 l)
  ],
)

pub shortest_closed : (k : Known) → IsClosedUnderParts (IsShortest k.graph)
shortest_closed k p q h part = elim h [
  | inl single ↦ inl (singles_closed k.graph p q single part)
  | inr least ↦ inr (least_closed k.graph p q least part)
]

-- ---- a grow behind the stars

abbrev pub grown_from : ℕ → ℕ → List Row → Known
grown_from n m rs = record {
  graph = widened (graph_of n (updates n rs)) m;
  weight = weights_from rs;
  is = weights_is n rs;
}

abbrev pub grown_test : ℕ → ℕ → List Row → List ℕ → Bool
grown_test n m rs p = historical_test n (made_from n false rs) p || vertex_test m p

pub grown_test_is : (n m : ℕ) (rs : List Row) (p : List ℕ)
    → IsTrue (grown_test n m rs p) ↔ HistGrow (IsHistorical n false (updates n rs)) m p
grown_test_is n m rs p = (
  λ h. elim (or_cases (historical_test n (made_from n false rs) p) (vertex_test m p) h)
      [ inl old ↦ inl ((historical_are n false rs p).1 old) | inr s ↦ inr ((vertex_test_is m p).0 s) ],
  λ h. elim h [
    | inl old ↦ or_left (historical_test n (made_from n false rs) p) (vertex_test m p) ((historical_are n false rs p).0 old)
    | inr s ↦ or_right (historical_test n (made_from n false rs) p) (vertex_test m p) ((vertex_test_is m p).1 s)
  ],
)

closed_after : (n : ℕ) (ms : List Made) → IsClosedUnderParts (after n ms).historical
closed_after n [] = singles_closed (no_edges n)
closed_after n (m ∷ ms) = step_closed (after n ms).historical m.vertex m.known.graph (closed_after n ms)

pub grown_closed : (n m : ℕ) (rs : List Row) → IsClosedUnderParts (HistGrow (IsHistorical n false (updates n rs)) m)
grown_closed n m rs p q h part = elim h [
  | inl old ↦ inl (subst (λ (moment : Moment). IsClosedUnderParts moment.historical) (sym (moment_is n false rs))
      (closed_after n (made_from n false rs)) p q old part)
  | inr single ↦ inr (singles_closed (no_edges m) p q single part)
]
