-- Star steps one behind the other, what stands between two steps of an update, and what it ends with: for
-- `Engine::star` and `clean_one`.
use Rattle.std.specs.Prelude.{◌≡◌, ℕ, ◌+◌, ◌<◌, ◌⊎◌, false, if◌then◌else◌, List, [], ◌∷◌, ◌++◌, length, Some, refl, Contains, nat_lt}
use Rattle.std.proofs.Common.{sym, ◌∙◌, ap, subst, arith, inl, inr}
use Rattle.std.proofs.lemmas.Bool.{cases_lt, lt-ltb, le-ltb}
use Rattle.apsp_model.specs.Graph.{Graph}
use Rattle.apsp_model.specs.Star.{Star, star_of}
use Rattle.apsp_model.specs.Walk.{IsOnceEach}
use Rattle.apsp_model.specs.Local.{IsLocal}
use Rattle.apsp_model.specs.Command.{Star_update, Step, Star_step, cleaned, with_cleaning}
use Rattle.apsp_model.specs.Kept.{Moment, after_star, after_steps, IsWithEdge}
use Rattle.apsp_model.specs.Counts.{RemovedIs, PathsAre}
use Rattle.apsp_model.specs.Paths.{KeptPath, IsOncePerList, moment_in}
use Rattle.fixup_math.proofs.Births.{StateBefore}
use Rattle.apsp_model.proofs.Members.{in_cons, in_nil, head_in, tail_in}
use Rattle.apsp_model.proofs.Counting.{count_same}
use Rattle.history_engine.specs.Seen.{EngineSeen, moment_seen, paths_of, SayTheSame}
use Rattle.history_engine.specs.Advance.{Advance, steps_of_star}
use Rattle.history_engine.specs.Lawful.{IsMomentOf}
use Rattle.history_engine.specs.Stepping.{IsStepDone, UpdateInvariant}
use Rattle.history_engine.proofs.Moments.{same_chain, star_on}

-- what is lawful is a book of the mathematics of settling, and the other way round
pub to_book : (g : Graph) (m : Moment) → IsMomentOf g m → StateBefore g m
to_book g m l =
    record {
      closed = l.closed;
      singles = l.singles;
      marked_kept = l.marked_kept;
      kept = l.kept;
      single_births
          = l.single_births;
      least = l.least;
    }

pub from_book : (g : Graph) (m : Moment) → StateBefore g m → IsMomentOf g m
from_book g m b =
    record {
      closed = b.closed;
      singles = b.singles;
      marked_kept = b.marked_kept;
      kept = b.kept;
      single_births
          = b.single_births;
      least = b.least;
    }

-- a book stays one where the moment says the same
pub book_on : (g : Graph) (m n : Moment) → SayTheSame m n → StateBefore g m → StateBefore g n
book_on g m n s b = record {
  closed = λ p q h part. (s.historical q).0 (b.closed p q ((s.historical p).1 h) part);
  singles = λ p h. (s.historical p).0 (b.singles p h);
  marked_kept = λ p h. (s.kept p).0 (b.marked_kept p ((s.historical p).1 h));
  kept = λ p. (λ k. there p ((b.kept p).0 ((s.kept p).1 k)), λ l. (s.kept p).0 ((b.kept p).1 (back p l)));
  single_births =
      λ p c single. (
        λ h. (b.single_births p c single).0 ((s.birth p c).1 h),
        λ e. (s.birth p c).0
            ((b.single_births p c single).1 e),
      );
  least = λ p h. (s.historical p).0 (b.least p h);
}
  where
    there : (p : List ℕ) → IsLocal g m.historical p → IsLocal g n.historical p
    there p l = record { simple = l.simple; walk = l.walk; parts = λ q part. (s.historical q).0 (l.parts q part) }

    back : (p : List ℕ) → IsLocal g n.historical p → IsLocal g m.historical p
    back p l = record { simple = l.simple; walk = l.walk; parts = λ q part. (s.historical q).1 (l.parts q part) }

-- ---- how many paths with an edge a list of kept paths has

abbrev pub edge_lists : List KeptPath → List (List ℕ)
edge_lists [] = []
edge_lists (k ∷ ks) = if nat_lt 1 (length k.list) then k.list ∷ edge_lists ks else edge_lists ks

abbrev pub KeptWithEdge : List KeptPath → List ℕ → Type 0
KeptWithEdge ks p = ((k : KeptPath) × Contains ks k × (k.list ≡ p)) × IsWithEdge p

kept_later : (k : KeptPath) (ks : List KeptPath) (p : List ℕ) → KeptWithEdge ks p → KeptWithEdge (k ∷ ks) p
kept_later k ks p h = ((h.0.0, tail_in h.0.0 k ks h.0.1, h.0.2), h.1)

kept_cases : (k : KeptPath) (ks : List KeptPath) (p : List ℕ) → KeptWithEdge (k ∷ ks) p → (k.list ≡ p)
    ⊎ KeptWithEdge ks p
kept_cases k ks p h = elim (in_cons h.0.0 k ks h.0.1) [
  | inl here ↦ inl (ap (λ (j : KeptPath). j.list) here ∙ h.0.2)
  | inr there ↦ inr ((h.0.0, there, h.0.2), h.1)
]

edge_lists_in : (ks : List KeptPath) (p : List ℕ) → Contains (edge_lists ks) p → KeptWithEdge ks p
edge_lists_in [] p c = absurd (in_nil p c)
edge_lists_in (k ∷ ks) p c = elim (cases_lt 1 (length k.list)) [
  | inl long ↦ on_long long (λ there. edge_lists_in ks p there)
      (in_cons p k.list (edge_lists ks) (subst (λ b. Contains (if b then k.list ∷ edge_lists ks else edge_lists ks) p)
      (lt-ltb 1 (length k.list) long) c))
  | inr short ↦ kept_later k ks p (edge_lists_in ks p
      (subst (λ b. Contains (if b then k.list ∷ edge_lists ks else edge_lists ks) p)
      (le-ltb 1 (length k.list) (omega arith)) c))
]
  where
    on_long : 1 < length k.list → (Contains (edge_lists ks) p → KeptWithEdge ks p) → (k.list ≡ p)
        ⊎ Contains (edge_lists ks) p → KeptWithEdge (k ∷ ks) p
    on_long long later h = elim h [
      | inl here ↦ ((k, head_in k k ks refl, here), subst IsWithEdge here long)
      | inr there ↦ kept_later k ks p (later there)
    ]

in_edge_lists : (ks : List KeptPath) (p : List ℕ) → KeptWithEdge ks p → Contains (edge_lists ks) p
in_edge_lists [] p h = absurd (in_nil h.0.0 h.0.1)
in_edge_lists (k ∷ ks) p h = elim (cases_lt 1 (length k.list)) [
  | inl long ↦ subst (λ b. Contains (if b then k.list ∷ edge_lists ks else edge_lists ks) p)
      (sym (lt-ltb 1 (length k.list) long)) (elim (kept_cases k ks p h) [
        | inl here ↦ head_in p k.list (edge_lists ks) here
        | inr there ↦ tail_in p k.list (edge_lists ks) (in_edge_lists ks p there)
      ])
  | inr short ↦ subst (λ b. Contains (if b then k.list ∷ edge_lists ks else edge_lists ks) p)
      (sym (le-ltb 1 (length k.list) (omega arith))) (elim (kept_cases k ks p h) [
        | inl here ↦ absurd (let long : 1 < length k.list = subst IsWithEdge (sym here) h.1 in omega arith)
        | inr there ↦ in_edge_lists ks p there
      ])
]

edge_lists_once : (ks : List KeptPath) → IsOncePerList ks → IsOnceEach (edge_lists ks)
edge_lists_once [] once = tt
edge_lists_once (k ∷ ks) once = elim (cases_lt 1 (length k.list)) [
  | inl long ↦ subst (λ b. IsOnceEach (if b then k.list ∷ edge_lists ks else edge_lists ks))
      (sym (lt-ltb 1 (length k.list) long))
      (λ c. let h = edge_lists_in ks k.list c in once.0 h.0.0 h.0.1 h.0.2, edge_lists_once ks once.1)
  | inr short ↦ subst (λ b. IsOnceEach (if b then k.list ∷ edge_lists ks else edge_lists ks))
      (sym (le-ltb 1 (length k.list) (omega arith))) (edge_lists_once ks once.1)
]

pub paths_are : (k : ℕ) (ks : List KeptPath) → IsOncePerList ks → PathsAre (moment_in k ks) (length (edge_lists ks))
paths_are k ks once = record {
  lists = edge_lists ks;
  once = edge_lists_once ks once;
  exact = λ p. (edge_lists_in ks p, in_edge_lists ks p);
  length_is = refl;
}

-- ---- one step, and steps behind each other

-- the update's own step
pub first_step : (e : EngineSeen) (s : Star) (g : Graph) (formed removed : ℕ) (paths : List KeptPath)
    → g ≡ star_of e.graph s → IsStepDone s.vertex g e.steps (paths_of e) paths formed removed
    → UpdateInvariant e s g (if e.smooth then cleaned (e.vertices ++ Some s.vertex ∷ []) else []) (e.steps + 1) formed
    removed paths
first_step e s g formed removed paths is done = record {
  made = Star_step s.vertex g ∷ [];
  rest = ap (λ h. with_cleaning (if e.smooth then cleaned (e.vertices ++ Some s.vertex ∷ []) else []) h
      (Star_step s.vertex h ∷ [])) is;
  says = done.says;
  steps_is = refl;
  removed_is = (0, removed, refl, done.removed_is, omega arith);
  formed_is = done.formed_is;
  lawful = done.lawful;
}

-- one cleaning step more
pub cleaning_step : (e : EngineSeen) (s : Star) (g : Graph) (v : ℕ) (left : List ℕ) (steps formed removed : ℕ)
    (paths : List KeptPath) (more_formed more_removed : ℕ) (after : List KeptPath)
    → UpdateInvariant e s g (v ∷ left) steps formed removed paths
    → IsStepDone v g steps paths after more_formed more_removed
    → UpdateInvariant e s g left (steps + 1) (formed + more_formed) (removed + more_removed) after
cleaning_step e s g v left steps formed removed paths more_formed more_removed after w done = record {
  made = Star_step v g ∷ w.made;
  rest = w.rest;
  says = same_chain (moment_in (steps + 1) after) (after_star (moment_in steps paths) v g)
      (after_star (after_steps (moment_seen e) w.made) v g) done.says
      (star_on (moment_in steps paths) (after_steps (moment_seen e) w.made) v g w.says);
  steps_is = let is : steps ≡ e.steps + length w.made = w.steps_is in omega arith;
  removed_is = (
    removed,
    more_removed,
    w.removed_is,
    count_same
        (λ p. (moment_in steps paths).kept p × IsWithEdge p × Contains p v)
        (λ p. (after_steps (moment_seen e) w.made).kept p × IsWithEdge p × Contains p v) more_removed
        (λ p. (λ h. ((w.says.kept p).0 h.0, h.1, h.2), λ h. ((w.says.kept p).1 h.0, h.1, h.2))) done.removed_is,
    refl,
  );
  formed_is = λ a b at_first at_last.
      let now : ℕ = length (edge_lists paths) in
      let one : formed + b ≡ now + removed = w.formed_is now b at_first (paths_are steps paths w.lawful.once) in
      let two : more_formed + now ≡ a + more_removed =
      done.formed_is a now (paths_are steps paths w.lawful.once) at_last in
      omega arith;
  lawful = done.lawful;
}

-- the whole update, once no vertex is left to be cleaned
pub update_done : (e : EngineSeen) (s : Star) (after : EngineSeen) → IsOncePerList (paths_of e)
    → after.opening ≡ e.opening → after.smooth ≡ e.smooth → after.graph ≡ star_of e.graph s
    → after.vertices ≡ e.vertices ++ Some s.vertex ∷ [] → after.spent ≡ false
    → UpdateInvariant e s after.graph [] after.steps after.formed after.removed (paths_of after)
    → Advance e (Star_update s) after
update_done e s after once opening smooth graph vertices spent w = record {
  opening = opening;
  smooth = smooth;
  graph = graph;
  vertices = vertices;
  steps = w.steps_is ∙ ap (λ made. e.steps + length made) w.rest;
  turnover = record {
    before = length (edge_lists (paths_of e));
    after = length (edge_lists (paths_of after));
    paths_before = paths_are e.steps (paths_of e) once;
    paths_after =
        count_same (λ p. (moment_seen after).kept p × IsWithEdge p)
        (λ p. (after_steps (moment_seen e) (steps_of_star e s)).kept p × IsWithEdge p)
        (length (edge_lists (paths_of after))) (λ p. (λ h. ((says.kept p).0 h.0, h.1), λ h. ((says.kept p).1 h.0, h.1)))
        (paths_are after.steps (paths_of after) w.lawful.once);
    removed_is = subst (λ (made : List Step). RemovedIs (moment_seen e) made after.removed) w.rest w.removed_is;
    formed_is =
        w.formed_is (length (edge_lists (paths_of after))) (length (edge_lists (paths_of e)))
        (paths_are e.steps (paths_of e) once) (paths_are after.steps (paths_of after) w.lawful.once);
  };
  book = record { weights = w.lawful.weights; once = w.lawful.once; says = says };
  not_spent = spent;
}
  where
    says : SayTheSame (moment_seen after) (after_steps (moment_seen e) (steps_of_star e s))
    says = subst (λ (made : List Step). SayTheSame (moment_seen after) (after_steps (moment_seen e) made)) w.rest w.says
