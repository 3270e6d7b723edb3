-- Updates that are given by lists of entries: their steps, and what is found for them.
use Rattle.std.specs.Prelude.{◌≡◌, ℕ, ◌+◌, ◌-◌, ◌<◌, ◌↔◌, Bool, true, ◌&&◌, if◌then◌else◌, IsTrue, List, [], ◌∷◌, ◌++◌, length, Option, Some, None, refl, Contains, nat_lt}
use Rattle.std.specs.FinMap as map
use Rattle.std.proofs.Common.{sym, ◌∙◌, ap, subst, arith}
use Rattle.std.proofs.lemmas.Bool.{and_from, and_parts, ltb-true, lt-ltb}
use Rattle.apsp_model.specs.Graph.{weight_at, pair_cmp}
use Rattle.apsp_model.specs.Star.{touches}
use Rattle.apsp_model.specs.Command.{Step, graph_of, vertices_of, steps_of, cleaned, with_cleaning, with_star_steps}
use Rattle.apsp_model.specs.Local.{IsVertex}
use Rattle.apsp_model.specs.Kept.{Moment, IsWithEdge, opening, after_star, after_steps, moment_of, IsKept, IsHistorical, HasBirth}
use Rattle.apsp_model.specs.Counts.{CountIs, RemovedIs, TurnoverIs, LatestTurnoverIs, CountsAre, Counts, PathsAre}
use Rattle.apsp_model.proofs.Stars.{weight-star_of, pairs_total}
use Rattle.apsp_model.proofs.Counting.{count_none}
use Rattle.model_rows.specs.Networks.{Row, star_from, updates}
use Rattle.apsp_model.proofs.Deciding.{Known, Weights, Made, steps_from, contains_test, historical_test, kept_test, birth_by, contains_test_is}
use Rattle.apsp_model.proofs.Finding.{after, historical_test_is, kept_test_is, birth_is, found, found_is, count_found, once_test}

abbrev pub weights_from : List Row → Weights
weights_from [] a b = None
weights_from (r ∷ rs) a b = if touches r.0 (a, b) then map.find pair_cmp (a, b) r.1 else weights_from rs a b

pub weights_is : (n : ℕ) (rs : List Row) (a b : ℕ) → weight_at (graph_of n (updates n rs)) a b ≡ weights_from rs a b
weights_is n [] a b = map.get-empty pair_cmp (a, b)
weights_is n (r ∷ rs) a b =
    weight-star_of (graph_of n (updates n rs)) (star_from n r) a b
    ∙ (λ i. if touches r.0 (a, b) then map.get-from_entries pairs_total r.1 (a, b) i else weights_is n rs a b i)

abbrev pub known_from : ℕ → List Row → Known
known_from n rs = record { graph = graph_of n (updates n rs); weight = weights_from rs; is = weights_is n rs }

abbrev pub made_at : ℕ → ℕ → List Row → Made
made_at n v rs = record { vertex = v; known = known_from n rs }

abbrev pub with_cleaning_made : ℕ → List ℕ → List Row → List Made → List Made
with_cleaning_made n [] rs ms = ms
with_cleaning_made n (v ∷ vs) rs ms = with_cleaning_made n vs rs (made_at n v rs ∷ ms)

abbrev pub vertices_from : List Row → List (Option ℕ)
vertices_from [] = []
vertices_from (r ∷ rs) = vertices_from rs ++ Some r.0 ∷ []

abbrev pub update_made : ℕ → Bool → Row → List Row → List Made → List Made
update_made n smooth r rs ms =
    with_cleaning_made n (if smooth then cleaned (vertices_from (r ∷ rs)) else []) (r ∷ rs)
    (made_at n r.0 (r ∷ rs) ∷ ms)

abbrev pub made_from : ℕ → Bool → List Row → List Made
made_from n smooth [] = []
made_from n smooth (r ∷ rs) = update_made n smooth r rs (made_from n smooth rs)

-- ---- the steps are those of the commands

vertices_is : (n : ℕ) (rs : List Row) → vertices_of (updates n rs) ≡ vertices_from rs
vertices_is n [] = refl
vertices_is n (r ∷ rs) = ap (λ vs. vs ++ Some r.0 ∷ []) (vertices_is n rs)

cleaning_is : (n : ℕ) (vs : List ℕ) (rs : List Row) (ms : List Made)
    → with_cleaning vs (graph_of n (updates n rs)) (steps_from ms) ≡ steps_from (with_cleaning_made n vs rs ms)
cleaning_is n [] rs ms = refl
cleaning_is n (v ∷ vs) rs ms = cleaning_is n vs rs (made_at n v rs ∷ ms)

update_is : (n : ℕ) (smooth : Bool) (r : Row) (rs : List Row) (ms : List Made)
    → with_star_steps smooth (vertices_of (updates n (r ∷ rs))) (graph_of n (updates n (r ∷ rs))) r.0 (steps_from ms) ≡
    steps_from (update_made n smooth r rs ms)
update_is n smooth r rs ms =
    ap (λ vs. with_star_steps smooth vs (graph_of n (updates n (r ∷ rs))) r.0 (steps_from ms)) (vertices_is n (r ∷ rs))
    ∙ cleaning_is n (if smooth then cleaned (vertices_from (r ∷ rs)) else []) (r ∷ rs) (made_at n r.0 (r ∷ rs) ∷ ms)

steps_is : (n : ℕ) (smooth : Bool) (rs : List Row)
    → steps_of n smooth (updates n rs) ≡ steps_from (made_from n smooth rs)
steps_is n smooth [] = refl
steps_is n smooth (r ∷ rs) =
    ap (λ steps. with_star_steps smooth (vertices_of (updates n (r ∷ rs))) (graph_of n (updates n (r ∷ rs))) r.0 steps)
    (steps_is n smooth rs)
    ∙ update_is n smooth r rs (made_from n smooth rs)

made_append : (n : ℕ) (vs : List ℕ) (rs : List Row) (a b : List Made)
    → with_cleaning_made n vs rs (a ++ b) ≡ with_cleaning_made n vs rs a ++ b
made_append n [] rs a b = refl
made_append n (v ∷ vs) rs a b = made_append n vs rs (made_at n v rs ∷ a) b

length-steps_from : (ms : List Made) → length (steps_from ms) ≡ length ms
length-steps_from [] = refl
length-steps_from (m ∷ ms) = let rest : length (steps_from ms) ≡ length ms = length-steps_from ms in omega arith

pub moment_is : (n : ℕ) (smooth : Bool) (rs : List Row)
    → moment_of n smooth (updates n rs) ≡ after n (made_from n smooth rs)
moment_is n smooth rs = ap (after_steps (opening n)) (steps_is n smooth rs)

-- ---- what is kept, historical and with which birth

abbrev pub kept_from : ℕ → Bool → List Row → List (List ℕ)
kept_from n smooth rs = found n (made_from n smooth rs) (λ p. true)

pub kept_are : (n : ℕ) (smooth : Bool) (rs : List Row) (p : List ℕ)
    → IsKept n smooth (updates n rs) p ↔ Contains (kept_from n smooth rs) p
kept_are n smooth rs p =
    let e : Contains (kept_from n smooth rs) p ↔ ((after n (made_from n smooth rs)).kept p × IsTrue true) =
    found_is n (made_from n smooth rs) (λ p. true) p in
    let F : Moment → Type 0 = λ m. m.kept p ↔ Contains (kept_from n smooth rs) p in
    subst F (sym (moment_is n smooth rs)) (λ k. e.1 (k, refl), λ c. (e.0 c).0)

pub historical_are : (n : ℕ) (smooth : Bool) (rs : List Row) (p : List ℕ)
    → IsHistorical n smooth (updates n rs) p ↔ IsTrue (historical_test n (made_from n smooth rs) p)
historical_are n smooth rs p =
    let e : IsTrue (historical_test n (made_from n smooth rs) p) ↔ (after n (made_from n smooth rs)).historical p =
    historical_test_is n (made_from n smooth rs) p in
    let F : Moment → Type 0 = λ m. m.historical p ↔ IsTrue (historical_test n (made_from n smooth rs) p) in
    subst F (sym (moment_is n smooth rs)) (e.1, e.0)

pub births_are : (n : ℕ) (smooth : Bool) (rs : List Row) (p : List ℕ) (b : ℕ)
    → HasBirth n smooth (updates n rs) p b ↔
    (IsTrue (kept_test n (made_from n smooth rs) p) × (b ≡ birth_by n (made_from n smooth rs) p))
births_are n smooth rs p b =
    let k : IsTrue (kept_test n (made_from n smooth rs) p) ↔ (after n (made_from n smooth rs)).kept p =
    kept_test_is n (made_from n smooth rs) p in
    let e : (after n (made_from n smooth rs)).birth p b ↔
    ((after n (made_from n smooth rs)).kept p × (b ≡ birth_by n (made_from n smooth rs) p)) = birth_is n
    (made_from n smooth rs) p b in
    let F : Moment → Type 0 =
    λ m. m.birth p b ↔ (IsTrue (kept_test n (made_from n smooth rs) p) × (b ≡ birth_by n (made_from n smooth rs) p))
    in
    subst F (sym (moment_is n smooth rs)) (λ h. (k.1 (e.0 h).0, (e.0 h).1), λ h. e.1 (k.0 h.0, h.1))

-- ---- counts

abbrev pub edge_test : List ℕ → Bool
edge_test p = nat_lt 1 (length p)

pub edge_test_is : (p : List ℕ) → IsTrue (edge_test p) ↔ IsWithEdge p
edge_test_is p = (λ h. ltb-true 1 (length p) h, λ h. lt-ltb 1 (length p) h)

abbrev pub paths_by : ℕ → List Made → ℕ
paths_by n ms = length (found n ms edge_test)

paths_are : (n : ℕ) (ms : List Made) → IsTrue (once_test (found n ms edge_test)) → PathsAre (after n ms) (paths_by n ms)
paths_are n ms once =
    count_found n ms edge_test (λ p. (after n ms).kept p × IsWithEdge p)
    (λ p. (λ h. (h.0, (edge_test_is p).0 h.1), λ h. (h.0, (edge_test_is p).1 h.1))) once

abbrev pub historical_edge : ℕ → List Made → List ℕ → Bool
historical_edge n ms p = edge_test p && historical_test n ms p

historical_count : (n : ℕ) (ms : List Made) → IsTrue (once_test (found n ms (historical_edge n ms)))
    → CountIs (λ p. (after n ms).kept p × IsWithEdge p × (after n ms).historical p)
    (length (found n ms (historical_edge n ms)))
historical_count n ms once =
    count_found n ms (historical_edge n ms) (λ p. (after n ms).kept p × IsWithEdge p × (after n ms).historical p)
    (λ p. (
      λ h. let s : IsTrue (edge_test p) × IsTrue (historical_test n ms p) =
          and_parts (edge_test p) (historical_test n ms p) h.1 in
          (h.0, (edge_test_is p).0 s.0, (historical_test_is n ms p).0 s.1),
      λ h. (
        h.0,
        and_from (edge_test p) (historical_test n ms p) ((edge_test_is p).1 h.1)
            ((historical_test_is n ms p).1 h.2),
      ),
    )) once

abbrev pub through_edge : ℕ → List ℕ → Bool
through_edge v p = edge_test p && contains_test p v

through_count : (n : ℕ) (ms : List Made) (v : ℕ) → IsTrue (once_test (found n ms (through_edge v)))
    → CountIs (λ p. (after n ms).kept p × IsWithEdge p × Contains p v) (length (found n ms (through_edge v)))
through_count n ms v once =
    count_found n ms (through_edge v) (λ p. (after n ms).kept p × IsWithEdge p × Contains p v) (λ p. (
      λ h. let s : IsTrue (edge_test p) × IsTrue (contains_test p v) =
          and_parts (edge_test p) (contains_test p v) h.1 in
          (h.0, (edge_test_is p).0 s.0, (contains_test_is p v).0 s.1),
      λ h. (h.0, and_from (edge_test p) (contains_test p v) ((edge_test_is p).1 h.1) ((contains_test_is p v).1 h.2)),
    )) once

-- over the new steps, behind the earlier ones
abbrev pub removed_by : ℕ → List Made → List Made → ℕ
removed_by n earlier [] = 0
removed_by n earlier (m ∷ ms) = removed_by n earlier ms + length (found n (ms ++ earlier) (through_edge m.vertex))

abbrev pub once_in_each : ℕ → List Made → List Made → Bool
once_in_each n earlier [] = true
once_in_each n earlier (m ∷ ms) =
    once_in_each n earlier ms && once_test (found n (ms ++ earlier) (through_edge m.vertex))

after_append : (n : ℕ) (new earlier : List Made)
    → after_steps (after n earlier) (steps_from new) ≡ after n (new ++ earlier)
after_append n [] earlier = refl
after_append n (m ∷ new) earlier = ap (λ moment. after_star moment m.vertex m.known.graph) (after_append n new earlier)

removed_are : (n : ℕ) (earlier new : List Made) → IsTrue (once_in_each n earlier new)
    → RemovedIs (after n earlier) (steps_from new) (removed_by n earlier new)
removed_are n earlier [] once = refl
removed_are n earlier (m ∷ new) once =
    let s : IsTrue (once_in_each n earlier new)
    × IsTrue (once_test (found n (new ++ earlier) (through_edge m.vertex))) = and_parts (once_in_each n earlier new)
    (once_test (found n (new ++ earlier) (through_edge m.vertex))) once in
    let F : Moment → Type 0 =
    λ moment. CountIs (λ p. moment.kept p × IsWithEdge p × Contains p m.vertex)
    (length (found n (new ++ earlier) (through_edge m.vertex))) in (
      removed_by n earlier new,
      length (found n (new ++ earlier) (through_edge m.vertex)),
      removed_are n earlier new s.0,
      subst F (sym (after_append n new earlier)) (through_count n (new ++ earlier) m.vertex s.1),
      refl,
    )

abbrev pub new_made : ℕ → Bool → Row → List Row → List Made
new_made n smooth r rs = update_made n smooth r rs []

-- what is found for a list of commands that is not empty
abbrev pub counts_from : ℕ → Bool → Row → List Row → Counts
counts_from n smooth r rs = record {
  updates = length (vertices_from (r ∷ rs));
  steps = length (made_from n smooth (r ∷ rs));
  paths = paths_by n (made_from n smooth (r ∷ rs));
  historical = length (found n (made_from n smooth (r ∷ rs)) (historical_edge n (made_from n smooth (r ∷ rs))));
  formed = (paths_by n (made_from n smooth (r ∷ rs)) + removed_by n (made_from n smooth rs) (new_made n smooth r rs)) -
      paths_by n (made_from n smooth rs);
  removed = removed_by n (made_from n smooth rs) (new_made n smooth r rs);
}

-- the tests on which the counts stand
abbrev pub tests_from : ℕ → Bool → Row → List Row → Bool
tests_from n smooth r rs =
    once_test (found n (made_from n smooth (r ∷ rs)) edge_test)
    && (once_test (found n (made_from n smooth rs) edge_test)
    && (once_test (found n (made_from n smooth (r ∷ rs)) (historical_edge n (made_from n smooth (r ∷ rs))))
    && (once_in_each n (made_from n smooth rs) (new_made n smooth r rs)
    && nat_lt (paths_by n (made_from n smooth rs))
    (paths_by n (made_from n smooth (r ∷ rs)) + removed_by n (made_from n smooth rs) (new_made n smooth r rs) +
    1))))

-- the parts of the tests
record Tests (n : ℕ) (smooth : Bool) (r : Row) (rs : List Row) : Type 0 where
  after : IsTrue (once_test (found n (made_from n smooth (r ∷ rs)) edge_test))
  before : IsTrue (once_test (found n (made_from n smooth rs) edge_test))
  historical : IsTrue (once_test (found n (made_from n smooth (r ∷ rs))
      (historical_edge n (made_from n smooth (r ∷ rs)))))
  removed : IsTrue (once_in_each n (made_from n smooth rs) (new_made n smooth r rs))
  enough : paths_by n (made_from n smooth rs) < paths_by n (made_from n smooth (r ∷ rs)) + removed_by n
      (made_from n smooth rs) (new_made n smooth r rs) + 1

five : (a b c d e : Bool) → IsTrue (a && (b && (c && (d && e)))) → IsTrue a × IsTrue b × IsTrue c × IsTrue d × IsTrue e
five a b c d e h =
    let s = and_parts a (b && (c && (d && e))) h in
    let t = and_parts b (c && (d && e)) s.1 in
    let u = and_parts c (d && e) t.1 in
    let v = and_parts d e u.1 in
    (s.0, t.0, u.0, v.0, v.1)

tests_are : (n : ℕ) (smooth : Bool) (r : Row) (rs : List Row) → IsTrue (tests_from n smooth r rs) → Tests n smooth r rs
tests_are n smooth r rs tests =
    let t = five
    (once_test (found n (made_from n smooth (r ∷ rs)) edge_test))
    (once_test (found n (made_from n smooth rs) edge_test))
    (once_test (found n (made_from n smooth (r ∷ rs)) (historical_edge n (made_from n smooth (r ∷ rs)))))
    (once_in_each n (made_from n smooth rs) (new_made n smooth r rs))
    (nat_lt (paths_by n (made_from n smooth rs))
    (paths_by n (made_from n smooth (r ∷ rs)) + removed_by n (made_from n smooth rs) (new_made n smooth r rs) + 1))
    tests in
    record { after = t.0; before = t.1; historical = t.2; removed = t.3; enough = ltb-true _ _ t.4 }

new_is : (n : ℕ) (smooth : Bool) (r : Row) (rs : List Row)
    → with_star_steps smooth (vertices_of (updates n (r ∷ rs))) (graph_of n (updates n (r ∷ rs))) r.0 [] ≡ steps_from
    (new_made n smooth r rs)
new_is n smooth r rs = update_is n smooth r rs []

made_is : (n : ℕ) (smooth : Bool) (r : Row) (rs : List Row) → made_from n smooth (r ∷ rs) ≡ new_made n smooth r rs
    ++ made_from n smooth rs
made_is n smooth r rs =
    made_append n (if smooth then cleaned (vertices_from (r ∷ rs)) else []) (r ∷ rs) (made_at n r.0 (r ∷ rs) ∷ [])
    (made_from n smooth rs)

turnover_is : (n : ℕ) (smooth : Bool) (r : Row) (rs : List Row) → Tests n smooth r rs
    → TurnoverIs (after n (made_from n smooth rs)) (steps_from (new_made n smooth r rs))
    (counts_from n smooth r rs).formed (counts_from n smooth r rs).removed
turnover_is n smooth r rs t = record {
  before = paths_by n (made_from n smooth rs);
  after = paths_by n (made_from n smooth (r ∷ rs));
  paths_before = paths_are n (made_from n smooth rs) t.before;
  paths_after =
      subst (λ (m : Moment). PathsAre m (paths_by n (made_from n smooth (r ∷ rs))))
      (ap (after n) (made_is n smooth r rs) ∙ sym (after_append n (new_made n smooth r rs) (made_from n smooth rs)))
      (paths_are n (made_from n smooth (r ∷ rs)) t.after);
  removed_is = removed_are n (made_from n smooth rs) (new_made n smooth r rs) t.removed;
  formed_is =
      less_and_more (paths_by n (made_from n smooth (r ∷ rs)) + removed_by n (made_from n smooth rs)
      (new_made n smooth r rs)) (paths_by n (made_from n smooth rs)) t.enough;
}
  where
    less_and_more : (a b : ℕ) → b < a + 1 → (a - b) + b ≡ a
    less_and_more a b l = omega arith

pub counts_are : (n : ℕ) (smooth : Bool) (r : Row) (rs : List Row) → IsTrue (tests_from n smooth r rs)
    → CountsAre n smooth (updates n (r ∷ rs)) (counts_from n smooth r rs)
counts_are n smooth r rs tests =
    let t : Tests n smooth r rs = tests_are n smooth r rs tests in
    record {
      updates = ap length (sym (vertices_is n (r ∷ rs)));
      steps = sym (ap length (steps_is n smooth (r ∷ rs)) ∙ length-steps_from (made_from n smooth (r ∷ rs)));
      paths = subst (λ (m : Moment). PathsAre m (paths_by n (made_from n smooth (r ∷ rs))))
          (sym (moment_is n smooth (r ∷ rs))) (paths_are n (made_from n smooth (r ∷ rs)) t.after);
      historical =
          subst (λ (m : Moment). CountIs (λ p. m.kept p × IsWithEdge p × m.historical p)
          (length (found n (made_from n smooth (r ∷ rs)) (historical_edge n (made_from n smooth (r ∷ rs))))))
          (sym (moment_is n smooth (r ∷ rs))) (historical_count n (made_from n smooth (r ∷ rs)) t.historical);
      turnover =
          turnover_there (subst (λ (steps : List Step). TurnoverIs (after n (made_from n smooth rs)) steps
          (counts_from n smooth r rs).formed (counts_from n smooth r rs).removed) (sym (new_is n smooth r rs))
          (turnover_is n smooth r rs t));
    }
  where
    turnover_there : TurnoverIs (after n (made_from n smooth rs))
        (with_star_steps smooth (vertices_of (updates n (r ∷ rs))) (graph_of n (updates n (r ∷ rs))) r.0 [])
        (counts_from n smooth r rs).formed (counts_from n smooth r rs).removed
        → LatestTurnoverIs n smooth (updates n (r ∷ rs)) (counts_from n smooth r rs).formed
        (counts_from n smooth r rs).removed
    turnover_there =
        subst (λ (m : Moment). TurnoverIs m
        (with_star_steps smooth (vertices_of (updates n (r ∷ rs))) (graph_of n (updates n (r ∷ rs))) r.0 [])
        (counts_from n smooth r rs).formed (counts_from n smooth r rs).removed) (sym (moment_is n smooth rs))

-- before any update
pub opening_counts : (n : ℕ) (smooth : Bool)
    → CountsAre n smooth [] (record { updates = 0; steps = 0; paths = 0; historical = 0; formed = 0; removed = 0 })
opening_counts n smooth = record {
  updates = refl;
  steps = refl;
  paths = count_none (λ p. IsVertex n p × IsWithEdge p) (λ p h. no_edge p h.0 h.1);
  historical = count_none (λ p. IsVertex n p × IsWithEdge p × IsVertex n p) (λ p h. no_edge p h.0 h.1);
  turnover = (refl, refl);
}
  where
    no_edge : (p : List ℕ) → IsVertex n p → IsWithEdge p → ⊥
    no_edge p single long = omega (arith, ap length single.2)
