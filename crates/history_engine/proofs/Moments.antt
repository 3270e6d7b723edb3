-- Steps from two moments that say the same lead to moments that say the same: for `law_advance`.
use Rattle.std.specs.Prelude.{◌≡◌, ℕ, ◌+◌, ◌↔◌, Bool, if◌then◌else◌, List, [], ◌∷◌, ◌++◌, length, Option, Some, None, refl, Contains}
use Rattle.std.proofs.lemmas.List.{length-append}
use Rattle.std.proofs.Common.{sym, ◌∙◌, ap, subst, arith, inl, inr}
use Rattle.apsp_model.specs.Graph.{Graph, widened}
use Rattle.apsp_model.specs.Star.{Star, star_of}
use Rattle.apsp_model.specs.Local.{HistStep, HistGrow, IsLocal}
use Rattle.apsp_model.specs.Command.{Command, Star_update, Grow_update, Mend, Step, Star_step, Grow_step, Mend_step, cleaned, with_cleaning, with_star_steps, steps_of, graph_of, vertices_of}
use Rattle.apsp_model.specs.Kept.{Moment, opening, after_star, after_grow, after_mend, after_steps, moment_of, IsWithEdge, BirthStep}
use Rattle.apsp_model.specs.Counts.{CountIs, RemovedIs, PathsAre, TurnoverIs, LatestTurnoverIs}
use Rattle.apsp_model.specs.Paths.{KeptPath}
use Rattle.history_engine.specs.Seen.{EngineSeen, moment_seen, SayTheSame, BookIs}
use Rattle.history_engine.specs.Advance.{Advance, Stands, StandsInOutline, AdvanceByUpdate, AdvanceByMend, steps_of_star, steps_of_grow}
use Rattle.history_engine.specs.Answers.{IsSpentBy}
use Rattle.history_engine.specs.Lawful.{AreLawful}

pub same_turned : (m n : Moment) → SayTheSame m n → SayTheSame n m
same_turned m n s = record {
  steps = sym s.steps;
  historical = λ p. ((s.historical p).1, (s.historical p).0);
  kept = λ p. ((s.kept p).1, (s.kept p).0);
  birth = λ p b. ((s.birth p b).1, (s.birth p b).0);
}

pub same_chain : (m n k : Moment) → SayTheSame m n → SayTheSame n k → SayTheSame m k
same_chain m n k s t = record {
  steps = s.steps ∙ t.steps;
  historical = λ p. (λ h. (t.historical p).0 ((s.historical p).0 h), λ h. (s.historical p).1 ((t.historical p).1 h));
  kept = λ p. (λ h. (t.kept p).0 ((s.kept p).0 h), λ h. (s.kept p).1 ((t.kept p).1 h));
  birth = λ p b. (λ h. (t.birth p b).0 ((s.birth p b).0 h), λ h. (s.birth p b).1 ((t.birth p b).1 h));
}

-- one way of a star step; the other is the same with the moments exchanged
historical_on : (m n : Moment) (v : ℕ) (g : Graph) → SayTheSame m n → (p : List ℕ) → HistStep m.historical v g p
    → HistStep n.historical v g p
historical_on m n v g s p h = elim h [
  | inl single ↦ inl single
  | inr rest ↦ elim rest [
    | inl old ↦ inr (inl ((s.historical p).0 old.0, old.1))
    | inr least ↦ inr (inr least)
  ]
]

local_on : (m n : Moment) (v : ℕ) (g : Graph) → SayTheSame m n → (p : List ℕ) → IsLocal g (HistStep m.historical v g) p
    → IsLocal g (HistStep n.historical v g) p
local_on m n v g s p l =
    record { simple = l.simple; walk = l.walk; parts = λ q part. historical_on m n v g s q (l.parts q part) }

birth_on : (m n : Moment) (v k j : ℕ) (s : SayTheSame m n) → k ≡ j → (p : List ℕ) (b : ℕ) → BirthStep m v k p b
    → BirthStep n v j p b
birth_on m n v k j s e p b h = elim h [
  | inl old ↦ inl (((s.kept p).0 old.0.0, old.0.1), (s.birth p b).0 old.1)
  | inr new ↦ inr (λ stays. new.0 ((s.kept p).1 stays.0, stays.1), new.1 ∙ e)
]

star_birth_on : (m n : Moment) (v : ℕ) (g : Graph) → SayTheSame m n → (p : List ℕ) (b : ℕ)
    → (after_star m v g).birth p b → (after_star n v g).birth p b
star_birth_on m n v g s p b h = (
  local_on m n v g s p h.0,
  elim h.1 [
    | inl single ↦ inl single
    | inr edge ↦ inr (edge.0, birth_on m n v (m.steps + 1) (n.steps + 1) s (ap (λ k. k + 1) s.steps) p b edge.1)
  ],
)

pub star_on : (m n : Moment) (v : ℕ) (g : Graph) → SayTheSame m n → SayTheSame (after_star m v g) (after_star n v g)
star_on m n v g s =
    let back : SayTheSame n m = same_turned m n s in
    record {
      steps = ap (λ k. k + 1) s.steps;
      historical = λ p. (historical_on m n v g s p, historical_on n m v g back p);
      kept = λ p. (local_on m n v g s p, local_on n m v g back p);
      birth = λ p b. (star_birth_on m n v g s p b, star_birth_on n m v g back p b);
    }

-- a grow step
grown_on : (m n : Moment) (k : ℕ) → SayTheSame m n → (p : List ℕ) → HistGrow m.historical k p
    → HistGrow n.historical k p
grown_on m n k s p h = elim h [ inl old ↦ inl ((s.historical p).0 old) | inr single ↦ inr single ]

grown_local_on : (m n : Moment) (g : Graph) → SayTheSame m n → (p : List ℕ)
    → IsLocal g (HistGrow m.historical g.vertices) p → IsLocal g (HistGrow n.historical g.vertices) p
grown_local_on m n g s p l =
    record { simple = l.simple; walk = l.walk; parts = λ q part. grown_on m n g.vertices s q (l.parts q part) }

grown_birth_on : (m n : Moment) (g : Graph) → SayTheSame m n → (p : List ℕ) (b : ℕ) → (after_grow m g).birth p b
    → (after_grow n g).birth p b
grown_birth_on m n g s p b h = (
  grown_local_on m n g s p h.0,
  elim h.1 [ inl single ↦ inl single | inr edge ↦ inr (edge.0, (s.birth p b).0 edge.1) ],
)

pub grow_on : (m n : Moment) (g : Graph) → SayTheSame m n → SayTheSame (after_grow m g) (after_grow n g)
grow_on m n g s =
    let back : SayTheSame n m = same_turned m n s in
    record {
      steps = ap (λ k. k + 1) s.steps;
      historical = λ p. (grown_on m n g.vertices s p, grown_on n m g.vertices back p);
      kept = λ p. (grown_local_on m n g s p, grown_local_on n m g back p);
      birth = λ p b. (grown_birth_on m n g s p b, grown_birth_on n m g back p b);
    }

-- a moment says what it says
pub same_itself : (m : Moment) → SayTheSame m m
same_itself m =
    record {
      steps = refl;
      historical = λ p. (λ h. h, λ h. h);
      kept = λ p. (λ h. h, λ h. h);
      birth = λ p b.
          (λ h. h, λ h. h);
    }

-- a mend step reads the number of steps alone
mend_on : (k j : ℕ) (g : Graph) → k ≡ j → SayTheSame (after_mend k g) (after_mend j g)
mend_on k j g e = subst (λ (i : ℕ). SayTheSame (after_mend k g) (after_mend i g)) e (same_itself (after_mend k g))

pub steps_on : (m n : Moment) (steps : List Step) → SayTheSame m n
    → SayTheSame (after_steps m steps) (after_steps n steps)
steps_on m n [] s = s
steps_on m n (Star_step v g ∷ steps) s = star_on (after_steps m steps) (after_steps n steps) v g (steps_on m n steps s)
steps_on m n (Grow_step g ∷ steps) s = grow_on (after_steps m steps) (after_steps n steps) g (steps_on m n steps s)
steps_on m n (Mend_step g ∷ steps) s =
    mend_on (after_steps m steps).steps (after_steps n steps).steps g (steps_on m n steps s).steps

-- ---- counts

count_on : (P Q : List ℕ → Type 0) (k : ℕ) → ((p : List ℕ) → P p ↔ Q p) → CountIs P k → CountIs Q k
count_on P Q k e c =
    record {
      lists = c.lists;
      once = c.once;
      exact = λ p.
          (λ h. (e p).0 ((c.exact p).0 h), λ h. (c.exact p).1 ((e p).1 h));
      length_is = c.length_is;
    }

paths_on : (m n : Moment) (k : ℕ) → SayTheSame m n → PathsAre m k → PathsAre n k
paths_on m n k s c =
    count_on (λ p. m.kept p × IsWithEdge p) (λ p. n.kept p × IsWithEdge p) k
    (λ p. (λ h. ((s.kept p).0 h.0, h.1), λ h. ((s.kept p).1 h.0, h.1))) c

removed_on : (m n : Moment) (steps : List Step) (r : ℕ) → SayTheSame m n → RemovedIs m steps r → RemovedIs n steps r
removed_on m n [] r s h = h
removed_on m n (Star_step v g ∷ steps) r s h =
    let t : SayTheSame (after_steps m steps) (after_steps n steps) = steps_on m n steps s in (
      h.0,
      h.1,
      removed_on m n steps h.0 s h.2,
      count_on (λ p. (after_steps m steps).kept p × IsWithEdge p × Contains p v)
          (λ p. (after_steps n steps).kept p × IsWithEdge p × Contains p v) h.1
          (λ p. (λ x. ((t.kept p).0 x.0, x.1, x.2), λ x. ((t.kept p).1 x.0, x.1, x.2))) h.3,
      h.4,
    )
removed_on m n (Grow_step g ∷ steps) r s h = removed_on m n steps r s h
removed_on m n (Mend_step g ∷ steps) r s h = removed_on m n steps r s h

turnover_on : (m n : Moment) (steps : List Step) (f r : ℕ) → SayTheSame m n → TurnoverIs m steps f r
    → TurnoverIs n steps f r
turnover_on m n steps f r s t = record {
  before = t.before;
  after = t.after;
  paths_before = paths_on m n t.before s t.paths_before;
  paths_after = paths_on (after_steps m steps) (after_steps n steps) t.after (steps_on m n steps s) t.paths_after;
  removed_is = removed_on m n steps r s t.removed_is;
  formed_is = t.formed_is;
}

-- ---- steps behind steps

cleaning-append : (vs : List ℕ) (g : Graph) (a b : List Step) → with_cleaning vs g (a ++ b) ≡ with_cleaning vs g a ++ b
cleaning-append [] g a b = refl
cleaning-append (v ∷ vs) g a b = cleaning-append vs g (Star_step v g ∷ a) b

pub after_steps-append : (m : Moment) (a b : List Step) → after_steps m (a ++ b) ≡ after_steps (after_steps m b) a
after_steps-append m [] b = refl
after_steps-append m (Star_step v g ∷ a) b = ap (λ n. after_star n v g) (after_steps-append m a b)
after_steps-append m (Grow_step g ∷ a) b = ap (λ n. after_grow n g) (after_steps-append m a b)
after_steps-append m (Mend_step g ∷ a) b = ap (λ n. after_mend n.steps g) (after_steps-append m a b)

star_steps-append : (smooth : Bool) (vs : List (Option ℕ)) (g : Graph) (v : ℕ) (b : List Step)
    → with_star_steps smooth vs g v b ≡ with_star_steps smooth vs g v [] ++ b
star_steps-append smooth vs g v b = cleaning-append (if smooth then cleaned vs else []) g (Star_step v g ∷ []) b

-- ---- the law

-- an update leads from standing for a list to standing for the list with the update behind it, where its vertex, its
-- graph and its steps are those that the definitions give it there
module _ (before after : EngineSeen) (commands : List Command) (stands : Stands before commands) (command : Command)
    (at : Option ℕ) (g : Graph) (made : List Step) (a : AdvanceByUpdate before at g made after) where
  abbrev n : ℕ
  n = before.opening

  abbrev smooth : Bool
  smooth = before.smooth

  update_stands : (graph : g ≡ graph_of n (command ∷ commands))
      (vertices : vertices_of commands ++ at ∷ [] ≡ vertices_of (command ∷ commands)) (new : List Step)
      (new_is : made ≡ new) (all_is : steps_of n smooth (command ∷ commands) ≡ new ++ steps_of n smooth commands)
      → ((f r : ℕ) → TurnoverIs (moment_of n smooth commands) new f r
      → LatestTurnoverIs n smooth (command ∷ commands) f r) → Stands after (command ∷ commands)
  update_stands graph vertices new new_is all_is turned = record {
    outline = record {
      graph = a.graph ∙ graph ∙ ap (λ k. graph_of k (command ∷ commands)) (sym a.opening);
      vertices = a.vertices ∙ ap (λ vs. vs ++ at ∷ []) stands.outline.vertices ∙ vertices;
      steps = steps_is;
      turnover = turnover_is;
    };
    not_spent = a.not_spent;
    book = record { weights = a.book.weights; once = a.book.once; says = says_is };
  }
    where
      same_parameters : {X : Type 0} (f : ℕ → Bool → X) → f n smooth ≡ f after.opening after.smooth
      same_parameters f = λ i. f (sym a.opening i) (sym a.smooth i)

      steps_is : after.steps ≡ length (steps_of after.opening after.smooth (command ∷ commands))
      steps_is =
          let count : length made ≡ length new = ap length new_is in
          let whole : length (steps_of n smooth (command ∷ commands)) ≡ length new + length (steps_of n smooth commands)
          = ap length all_is ∙ length-append new (steps_of n smooth commands) in
          let here : after.steps ≡ length (steps_of n smooth (command ∷ commands)) =
          let x : after.steps ≡ before.steps + length made = a.steps in
          let y : before.steps ≡ length (steps_of n smooth commands) = stands.outline.steps in omega arith in
          here ∙ same_parameters (λ k b. length (steps_of k b (command ∷ commands)))

      turnover_is : LatestTurnoverIs after.opening after.smooth (command ∷ commands) after.formed after.removed
      turnover_is =
          let here : TurnoverIs (moment_of n smooth commands) made after.formed after.removed =
          turnover_on (moment_seen before) (moment_of n smooth commands) made after.formed after.removed
          stands.book.says a.turnover in
          let F : List Step → Type 0 =
          λ steps. TurnoverIs (moment_of n smooth commands) steps after.formed after.removed in
          let there : LatestTurnoverIs n smooth (command ∷ commands) after.formed after.removed =
          turned after.formed after.removed (subst F new_is here) in
          subst (λ (k : ℕ). LatestTurnoverIs k after.smooth (command ∷ commands) after.formed after.removed)
          (sym a.opening)
          (subst (λ (b : Bool). LatestTurnoverIs n b (command ∷ commands) after.formed after.removed) (sym a.smooth)
          there)

      says_is : SayTheSame (moment_seen after) (moment_of after.opening after.smooth (command ∷ commands))
      says_is =
          let step : SayTheSame (after_steps (moment_seen before) made) (after_steps (moment_of n smooth commands) made)
          = steps_on (moment_seen before) (moment_of n smooth commands) made stands.book.says in
          let F : List Step → Type 0 =
          λ steps. SayTheSame (moment_seen after) (after_steps (moment_of n smooth commands) steps) in
          let G : Moment → Type 0 = λ m. SayTheSame (moment_seen after) m in
          let J : List Step → Type 0 = λ steps. SayTheSame (moment_seen after) (after_steps (opening n) steps) in
          let one : SayTheSame (moment_seen after) (after_steps (moment_of n smooth commands) made) =
          same_chain (moment_seen after) (after_steps (moment_seen before) made)
          (after_steps (moment_of n smooth commands) made) a.book.says step in
          let two : SayTheSame (moment_seen after) (after_steps (moment_of n smooth commands) new) =
          subst F new_is one in
          let three : SayTheSame (moment_seen after) (after_steps (opening n) (new ++ steps_of n smooth commands)) =
          subst G (sym (after_steps-append (opening n) new (steps_of n smooth commands))) two in
          let four : SayTheSame (moment_seen after) (moment_of n smooth (command ∷ commands)) =
          subst J (sym all_is) three in
          subst (λ (k : ℕ). SayTheSame (moment_seen after) (moment_of k after.smooth (command ∷ commands)))
          (sym a.opening)
          (subst (λ (b : Bool). SayTheSame (moment_seen after) (moment_of n b (command ∷ commands))) (sym a.smooth)
          four)

star_stands : (before after : EngineSeen) (s : Star) (commands : List Command) → Advance before (Star_update s) after
    → Stands before commands → Stands after (Star_update s ∷ commands)
star_stands before after s commands a stands =
    update_stands before after commands stands (Star_update s) (Some s.vertex) (star_of before.graph s)
    (steps_of_star before s) a
    (ap (λ g. star_of g s) stands.outline.graph)
    refl
    (with_star_steps before.smooth (vertices_of (Star_update s ∷ commands))
    (graph_of before.opening (Star_update s ∷ commands)) s.vertex [])
    (λ i. with_star_steps before.smooth (stands.outline.vertices i ++ Some s.vertex ∷ [])
    (star_of (stands.outline.graph i) s) s.vertex [])
    (star_steps-append before.smooth (vertices_of (Star_update s ∷ commands))
    (graph_of before.opening (Star_update s ∷ commands)) s.vertex (steps_of before.opening before.smooth commands))
    (λ f r t. t)

grow_stands : (before after : EngineSeen) (m : ℕ) (commands : List Command) → Advance before (Grow_update m) after
    → Stands before commands → Stands after (Grow_update m ∷ commands)
grow_stands before after m commands a stands =
    update_stands before after commands stands (Grow_update m) None (widened before.graph m) (steps_of_grow before m) a
    (ap (λ g. widened g m) stands.outline.graph)
    refl
    (Grow_step (graph_of before.opening (Grow_update m ∷ commands)) ∷ [])
    (λ i. Grow_step (widened (stands.outline.graph i) m) ∷ [])
    refl
    (λ f r t. t)

-- ---- mends

steps-after_steps : (m : Moment) (steps : List Step) → (after_steps m steps).steps ≡ m.steps + length steps
steps-after_steps m [] = omega arith
steps-after_steps m (Star_step v g ∷ earlier) =
    let e : (after_steps m earlier).steps ≡ m.steps + length earlier = steps-after_steps m earlier in omega arith
steps-after_steps m (Grow_step g ∷ earlier) =
    let e : (after_steps m earlier).steps ≡ m.steps + length earlier = steps-after_steps m earlier in omega arith
steps-after_steps m (Mend_step g ∷ earlier) =
    let e : (after_steps m earlier).steps ≡ m.steps + length earlier = steps-after_steps m earlier in omega arith

-- a mend leads to standing for the list with the mend behind it, and needs standing in outline alone
pub mend_stands : (before after : EngineSeen) (commands : List Command) → AdvanceByMend before after
    → StandsInOutline before commands → Stands after (Mend ∷ commands)
mend_stands before after commands a outline = record {
  outline = record {
    graph = a.graph ∙ outline.graph ∙ ap (λ k. graph_of k commands) (sym a.opening);
    vertices = a.vertices ∙ outline.vertices;
    steps = steps_is ∙ same_parameters (λ k b. length (steps_of k b (Mend ∷ commands)));
    turnover = turnover_is;
  };
  not_spent = a.not_spent;
  book = subst (λ (k : ℕ). BookIs after (moment_of k after.smooth (Mend ∷ commands))) (sym a.opening)
      (subst (λ (b : Bool). BookIs after (moment_of before.opening b (Mend ∷ commands))) (sym a.smooth) book_is);
}
  where
    same_parameters : {X : Type 0} (f : ℕ → Bool → X) → f before.opening before.smooth ≡ f after.opening after.smooth
    same_parameters f = λ i. f (sym a.opening i) (sym a.smooth i)

    steps_is : after.steps ≡ length (steps_of before.opening before.smooth (Mend ∷ commands))
    steps_is =
        let x : after.steps ≡ before.steps + 1 = a.steps in
        let y : before.steps ≡ length (steps_of before.opening before.smooth commands) = outline.steps in omega arith

    turnover_is : LatestTurnoverIs after.opening after.smooth (Mend ∷ commands) after.formed after.removed
    turnover_is =
        subst (λ (f : ℕ). LatestTurnoverIs after.opening after.smooth commands f after.removed) (sym a.formed)
        (subst (λ (r : ℕ). LatestTurnoverIs after.opening after.smooth commands before.formed r) (sym a.removed)
        (subst (λ (k : ℕ). LatestTurnoverIs k after.smooth commands before.formed before.removed) (sym a.opening)
        (subst (λ (b : Bool). LatestTurnoverIs before.opening b commands before.formed before.removed) (sym a.smooth)
        outline.turnover)))

    made : before.steps ≡ (moment_of before.opening before.smooth commands).steps
    made =
        let e : (moment_of before.opening before.smooth commands).steps ≡ 0 + length
        (steps_of before.opening before.smooth commands) = steps-after_steps (opening before.opening)
        (steps_of before.opening before.smooth commands) in
        let f : before.steps ≡ length (steps_of before.opening before.smooth commands) = outline.steps in
        omega arith

    book_is : BookIs after (moment_of before.opening before.smooth (Mend ∷ commands))
    book_is =
        subst (λ (k : ℕ). BookIs after (after_mend k (graph_of before.opening commands))) made
        (subst (λ (g : Graph). BookIs after (after_mend before.steps g)) outline.graph a.book)

pub law : (before after : EngineSeen) (command : Command) (commands : List Command) → Advance before command after
    → Stands before commands → Stands after (command ∷ commands)
law before after (Star_update s) commands a stands = star_stands before after s commands a stands
law before after (Grow_update m) commands a stands = grow_stands before after m commands a stands
law before after Mend commands a stands = mend_stands before after commands a stands.outline

-- what is lawful at some number of steps is so at each
pub lawful_at : (g : Graph) (t : ℕ) (paths : List KeptPath) → ((s : ℕ) × AreLawful g s paths) → AreLawful g t paths
lawful_at g t paths h = record {
  lawful = record {
    closed = h.1.lawful.closed;
    singles = h.1.lawful.singles;
    marked_kept = h.1.lawful.marked_kept;
    kept = h.1.lawful.kept;
    single_births = h.1.lawful.single_births;
    least = h.1.lawful.least;
  };
  weights = h.1.weights;
  once = h.1.once;
}

-- where memory ran out all but the book is as it was
pub spent_outline : (before after : EngineSeen) (commands : List Command) → IsSpentBy before after
    → StandsInOutline before commands → StandsInOutline after commands
spent_outline before after commands is stands =
    let F : EngineSeen → Type 0 = λ e. StandsInOutline e commands in
    subst F (sym is) (record {
      graph = stands.graph;
      vertices = stands.vertices;
      steps = stands.steps;
      turnover = stands.turnover;
    })
