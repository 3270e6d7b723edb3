-- The steps of an update, from the calls that make them: for `update`, `clean`, `clean_one` and `step`.
use Rattle.std.specs.Prelude.{◌≡◌, ℕ, ◌+◌, ◌-◌, ◌*◌, ◌^◌, ◌<◌, ◌≤◌, ◌⊎◌, Bool, true, false, if◌then◌else◌, List, [], ◌∷◌, ◌++◌, length, Option, Some, None, option_to_list, Result, Ok, Err, IfOk, refl, Contains}
use Rattle.std.specs.FinMap as map
use Rattle.std.proofs.Common.{sym, ◌∙◌, ap, subst, arith, inl, inr}
use Rattle.std.proofs.lemmas.List.{length-append}
use Rattle.apsp_model.specs.Graph.{Graph, weight_at}
use Rattle.apsp_model.specs.Star.{Star, star_of, star_at, touches}
use Rattle.apsp_model.specs.Local.{Avoids}
use Rattle.apsp_model.specs.Command.{latest_at, cleaned}
use Rattle.apsp_model.specs.Kept.{IsWithEdge}
use Rattle.apsp_model.specs.Counts.{CountIs}
use Rattle.apsp_model.specs.Paths.{KeptPath, IsOncePerList, IsKeptIn, moment_in}
use Rattle.apsp_model.specs.Settled.{IsCleaned, AreLocal, IsSettled}
use Rattle.apsp_model.proofs.Simples.{contained_or_not}
use Rattle.apsp_model.proofs.Stars.{weight-star_of, weight-star_at, same_graph}
use Rattle.apsp_model.proofs.Counting.{count_same, count_unique, count_either, count_decides, count_without}
use Rattle.history_engine.specs.Seen.{EngineSeen, paths_of}
use Rattle.history_engine.specs.Lawful.{AreLawful, IsStepReady}
use Rattle.history_engine.specs.Stepping.{IsStepDone, UpdateInvariant, StarIsInPlace}
use Rattle.history_engine.specs.Times.{left_from}
use Rattle.history_engine.proofs.Cleaning.{left_start, left_step, left_end}
use Rattle.history_engine.proofs.Stepping.{to_book, first_step}
use Rattle.history_engine.proofs.Steps.{step_done}

-- ---- one step

-- a star changes nothing away from its vertex
pub star_ready : (g : Graph) (s : Star) (k : ℕ) (paths : List KeptPath) → AreLawful g k paths
    → IsStepReady s.vertex (star_of g s) k paths
star_ready g s k paths lawful = record {
  before = g;
  same = record {
    vertices = refl;
    weights = λ a b apart.
        sym (weight-star_of g s a b ∙ at (touches s.vertex (a, b)) apart a b);
  };
  lawful = lawful;
}
  where
    at : (c : Bool) → c ≡ false → (a b : ℕ) → (if c then map.get s.edges (a, b) else weight_at g a b) ≡ weight_at g a b
    at c e a b = ap (λ d. if d then map.get s.edges (a, b) else weight_at g a b) e

-- the kept paths before a step are local in the graph before it
pub local_before : (v : ℕ) (g : Graph) (k : ℕ) (paths : List KeptPath) (r : IsStepReady v g k paths)
    → AreLocal r.before paths
local_before v g k paths r =
    record { closed = r.lawful.lawful.closed; kept = r.lawful.lawful.kept; weights = r.lawful.weights }

-- cleanup takes the paths with an edge through v away
pub taken_away : (v : ℕ) (before middle : List KeptPath) (a b : ℕ) → IsCleaned v before middle
    → CountIs (λ p. IsKeptIn before p × IsWithEdge p) a → CountIs (λ p. IsKeptIn middle p × IsWithEdge p) b → (b ≤ a)
    × CountIs (λ p. IsKeptIn before p × IsWithEdge p × Contains p v) (a - b)
taken_away v before middle a b cleaned at_first at_last =
    let Was : List ℕ → Type 0 = λ p. IsKeptIn before p × IsWithEdge p in
    let Left : List ℕ → Type 0 = λ p. IsKeptIn middle p × IsWithEdge p in
    let Gone : List ℕ → Type 0 = λ p. Was p × (Left p → ⊥) in
    let gone = count_without Left Was b a at_last at_first in
    let both : CountIs (λ p. Left p ⊎ Gone p) (b + gone.0) =
    count_either Left Gone b gone.0 (λ p l g. g.1 l) at_last gone.1 in
    let all : CountIs Was (b + gone.0) = count_same (λ p. Left p ⊎ Gone p) Was (b + gone.0) (λ p. (
      λ h. elim h [ inl l ↦ was p l | inr g ↦ g.0 ],
      λ h. elim (count_decides Left b at_last p) [ inl l ↦ inl l | inr out ↦ inr (h, out) ],
    )) both in
    let is : a ≡ b + gone.0 = count_unique Was a (b + gone.0) at_first all in (
      omega (arith, is),
      let number : gone.0 ≡ a - b = omega (arith, is) in
          let Q : List ℕ → Type 0 = λ p. IsKeptIn before p × IsWithEdge p × Contains p v in
          subst (CountIs Q) number (count_same Gone Q gone.0
          (λ p. (λ g. through p g.0 g.1, λ h. ((h.0, h.1), λ l. stays_not p h.1 h.2 l.0))) gone.1),
    )
  where
    was : (p : List ℕ) → IsKeptIn middle p × IsWithEdge p → IsKeptIn before p × IsWithEdge p
    was p h = ((h.0.0, ((cleaned h.0.0).0 h.0.1).0, h.0.2), h.1)

    through : (p : List ℕ) → IsKeptIn before p × IsWithEdge p → (IsKeptIn middle p × IsWithEdge p → ⊥)
        → IsKeptIn before p × IsWithEdge p × Contains p v
    through p h out = elim (contained_or_not p v) [
      | inl at ↦ (h.0, h.1, at)
      | inr avoids ↦ absurd (out (
        (
          h.0.0,
          (cleaned h.0.0).1
              (h.0.1, inl (subst (λ (q : List ℕ). Avoids q v) (sym h.0.2) avoids)),
          h.0.2,
        ),
        h.1,
      ))
    ]

    stays_not : (p : List ℕ) → IsWithEdge p → Contains p v → IsKeptIn middle p → ⊥
    stays_not p long at h = elim ((cleaned h.0).0 h.1).1 [
      | inl avoids ↦ subst (λ (q : List ℕ). Avoids q v) h.2 avoids at
      | inr short ↦ (let one : length p ≡ 1 = sym (ap length h.2) ∙ short in omega (arith, one, long))
    ]

-- cleanup and settling make a step
pub done_of : (v : ℕ) (g : Graph) (k : ℕ) (before middle after : List KeptPath) (formed promoted a b : ℕ)
    → IsStepReady v g k before → IsCleaned v before middle → IsSettled g (k + 1) middle after formed promoted
    → IsOncePerList after
    → CountIs (λ p. IsKeptIn before p × IsWithEdge p) a → CountIs (λ p. IsKeptIn middle p × IsWithEdge p) b
    → IsStepDone v g k before after formed (a - b)
done_of v g k before middle after formed promoted a b r cleaned settled once at_first at_last =
    step_done v k r.before g before r.same.vertices r.same.weights
    (to_book r.before (moment_in k before) r.lawful.lawful) middle cleaned
    after formed promoted (a - b) settled once (taken_away v before middle a b cleaned at_first at_last).1

-- ---- the steps of an update

long_one_more : (vs : List (Option ℕ)) (v : ℕ) → length (vs ++ Some v ∷ []) ≡ length vs + 1
long_one_more vs v = length-append vs (Some v ∷ [])

pub none_cleaned : (vs : List (Option ℕ)) (v i : ℕ) → None ≡ latest_at (vs ++ Some v ∷ []) (length vs + 1 - 2 ^ i)
    → left_from (vs ++ Some v ∷ []) i ≡ left_from (vs ++ Some v ∷ []) (i + 1)
none_cleaned vs v i e =
    let ws : List (Option ℕ) = vs ++ Some v ∷ [] in
    let at : latest_at ws (length ws - 2 ^ i) ≡ None =
    ap (λ n. latest_at ws (n - 2 ^ i)) (long_one_more vs v) ∙ sym e in
    left_step ws i ∙ ap (λ o. option_to_list o ++ left_from ws (i + 1)) at

pub one_cleaned : (vs : List (Option ℕ)) (v w i : ℕ) → Some w ≡ latest_at (vs ++ Some v ∷ []) (length vs + 1 - 2 ^ i)
    → left_from (vs ++ Some v ∷ []) i ≡ w ∷ left_from (vs ++ Some v ∷ []) (i + 1)
one_cleaned vs v w i e =
    let ws : List (Option ℕ) = vs ++ Some v ∷ [] in
    let at : latest_at ws (length ws - 2 ^ i) ≡ Some w =
    ap (λ n. latest_at ws (n - 2 ^ i)) (long_one_more vs v) ∙ sym e in
    left_step ws i ∙ ap (λ o. option_to_list o ++ left_from ws (i + 1)) at

-- before the power of number i, after steps that began with so many steps, formed and removed paths
pub record CleaningInvariant (g : Graph) (vs : List (Option ℕ)) (k f r : ℕ) (before : List KeptPath)
    (i steps formed removed : ℕ) (after : List KeptPath) : Type 0 where
  pub on : (e : EngineSeen) (s : Star) → UpdateInvariant e s g (left_from vs 0) k f r before
      → UpdateInvariant e s g (left_from vs i) steps formed removed after
  pub lawful : AreLawful g steps after
  pub steps_few : steps ≤ k + i
  pub steps_more : k ≤ steps
  pub formed_few : formed ≤ 2 ^ 48 * (i + 1)
  pub removed_few : removed ≤ 2 ^ 48 * (i + 1)

pub cleaning_done : (g : Graph) (vs : List (Option ℕ)) (v k f r : ℕ) (before : List KeptPath) (steps formed removed : ℕ)
    (after : List KeptPath) → length vs < 2 ^ 40
    → CleaningInvariant g (vs ++ Some v ∷ []) k f r before 40 steps formed removed after
    → (e : EngineSeen) (s : Star) → UpdateInvariant e s g (cleaned (vs ++ Some v ∷ [])) k f r before
    → UpdateInvariant e s g [] steps formed removed after
cleaning_done g vs v k f r before steps formed removed after few c e s w =
    let ws : List (Option ℕ) = vs ++ Some v ∷ [] in
    let over : left_from ws 40 ≡ [] =
    left_end ws 40 (let long : length ws ≡ length vs + 1 = long_one_more vs v in omega (arith, long, few)) in
    subst (λ (left : List ℕ). UpdateInvariant e s g left steps formed removed after) over
    (c.on e s (subst (λ (left : List ℕ). UpdateInvariant e s g left k f r before) (left_start ws) w))

-- the star step of an update, where the update has begun
pub begun : (e : EngineSeen) (s : Star) (g : Graph) (cleans : Bool) (vs : List (Option ℕ)) (v k : ℕ)
    (before after : List KeptPath) (formed removed : ℕ) → StarIsInPlace e s g cleans vs v k before
    → IsStepDone v g k before after formed removed
    → UpdateInvariant e s g (if cleans then cleaned (vs ++ Some v ∷ []) else []) (k + 1) formed removed after
begun e s g cleans vs v k before after formed removed b done =
    let at_vertex : IsStepDone s.vertex g k before after formed removed =
    subst (λ u. IsStepDone u g k before after formed removed) (sym b.vertex) done in
    let at_steps : IsStepDone s.vertex g e.steps before after formed removed =
    subst (λ n. IsStepDone s.vertex g n before after formed removed) (sym b.steps) at_vertex in
    let at_paths : IsStepDone s.vertex g e.steps (paths_of e) after formed removed =
    subst (λ (ps : List KeptPath). IsStepDone s.vertex g e.steps ps after formed removed) (sym b.paths) at_steps in
    let first = first_step e s g formed removed after b.graph at_paths in
    let left : (if e.smooth then cleaned (e.vertices ++ Some s.vertex ∷ []) else []) ≡
    (if cleans then cleaned (vs ++ Some v ∷ []) else [])
    = (λ i. if b.smooth i then cleaned (b.vertices i ++ Some (b.vertex i) ∷ []) else []) in
    subst (λ n. UpdateInvariant e s g (if cleans then cleaned (vs ++ Some v ∷ []) else []) (n + 1) formed removed after)
    b.steps
    (subst (λ (ws : List ℕ). UpdateInvariant e s g ws (e.steps + 1) formed removed after) left first)

-- the star that a vertex had takes an update back
pub taken_back : (g : Graph) (s : Star) (v : ℕ) → v ≡ s.vertex → star_of (star_of g s) (star_at g v) ≡ g
taken_back g s v e = same_graph (star_of (star_of g s) (star_at g v)) g refl (λ a b.
    weight-star_of (star_of g s) (star_at g v) a b
    ∙ ap (λ o. if touches v (a, b) then o else weight_at (star_of g s) a b) (weight-star_at g v a b)
    ∙ ap (λ o. if touches v (a, b) then (if touches v (a, b) then weight_at g a b else None) else o)
    (weight-star_of g s a b ∙ ap (λ u. if touches u (a, b) then map.get s.edges (a, b) else weight_at g a b)
    (sym e))
    ∙ either (touches v (a, b)) (weight_at g a b) (map.get s.edges (a, b)))
  where
    either : (c : Bool) (o q : Option ℕ) → (if c then (if c then o else None) else (if c then q else o)) ≡ o
    either true o q = refl
    either false o q = refl

pub cleaning_starts : (g : Graph) (vs : List (Option ℕ)) (k f r : ℕ) (before : List KeptPath) → AreLawful g k before
    → f ≤ 2 ^ 48 → r ≤ 2 ^ 48 → CleaningInvariant g vs k f r before 0 k f r before
cleaning_starts g vs k f r before lawful few_formed few_removed = record {
  on = λ e s w. w;
  lawful = lawful;
  steps_few = omega arith;
  steps_more = omega arith;
  formed_few = omega (arith, few_formed);
  removed_few = omega (arith, few_removed);
}

pub cleaning_more : (g : Graph) (vs : List (Option ℕ)) (k f r : ℕ) (before : List KeptPath) (i steps formed removed : ℕ)
    (paths : List KeptPath) (more_steps more_formed more_removed : ℕ) (after : List KeptPath)
    → CleaningInvariant g vs k f r before i steps formed removed paths
    → ((e : EngineSeen) (s : Star) → UpdateInvariant e s g (left_from vs i) steps formed removed paths
    → UpdateInvariant e s g (left_from vs (i + 1)) more_steps more_formed more_removed after)
    → AreLawful g more_steps after → more_steps ≤ steps + 1 → steps ≤ more_steps → more_formed ≤ 2 ^ 48 * (i + 2)
    → more_removed ≤ 2 ^ 48 * (i + 2)
    → CleaningInvariant g vs k f r before (i + 1) more_steps more_formed more_removed after
cleaning_more g vs k f r before i steps formed removed paths more_steps more_formed more_removed after c on lawful few
    more formed_few removed_few =
    let few_before : steps ≤ k + i = c.steps_few in
    let more_before : k ≤ steps = c.steps_more in
    record {
      on = λ e s w. on e s (c.on e s w);
      lawful = lawful;
      steps_few = omega (arith, few_before, few);
      steps_more = omega (arith, more_before, more);
      formed_few = omega (arith, formed_few);
      removed_few = omega (arith, removed_few);
    }

-- where a call answers, what it answers says more
pub if_ok : {A E : Type 0} (P Q : A → Type 0) → ((a : A) → P a → Q a) → (r : Result A E) → IfOk r P → IfOk r Q
if_ok P Q on (Ok a) h = on a h
if_ok P Q on (Err e) h = tt
