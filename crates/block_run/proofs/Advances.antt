-- One update more, and the end of the updates: for `publish_all`, `live_block` and `try_answer`.
use Rattle.std.specs.Prelude.{◌≡◌, ◌⊎◌, ℕ, ◌+◌, ◌-◌, ◌<◌, ◌≤◌, ◌^◌, ◌↔◌, true, false, Result, Ok, Err, OnErr, List, [], ◌∷◌, ◌++◌, length, take, Some, slice_get, refl}
use Rattle.std.proofs.Common.{sym, ◌∙◌, ap, subst, arith, inl, inr, length-append}
use Rattle.std.proofs.lemmas.List.{take_all, take_more, length-take-le}
use Rattle.std.proofs.lemmas.List.Elements.{All-get_or}
use Rattle.std.proofs.lemmas.Option.{slice_get_within, get_or_from_slice_get}
use Rattle.apsp_model.specs.Graph.{Graph}
use Rattle.apsp_model.specs.Star.{Star, star_of}
use Rattle.apsp_model.specs.Command.{Star_update}
use Rattle.graph_store.specs.Plan.{Plan, IsPlan, IsVersionOf, graph_after, hi_of}
use Rattle.version_face.specs.Seen.{VersionSeen as Version}
use Rattle.pin_cells.specs.Pinned.{IsOfPlan}
use Rattle.history_engine.specs.Seen.{EngineSeen}
use Rattle.history_engine.specs.Advance.{Advance, AdvanceByStar}
use Rattle.history_engine.specs.Answers.{IsSpentBy}
use Rattle.history_engine.specs.declared.engine.EngineError.{EngineError}
use Rattle.history_engine.specs.declared.engine.EngineError.TheVariants as error
use Rattle.version_pool.specs.Pooled.{Pool, Publisher, IsPublisherOf}
use Rattle.block_run.specs.Run.{AdvancesBy, IsCutOff, IsStartOf}
use Rattle.block_run.specs.Publishing.{CanPublish, IsNextOf}

-- ---- lists of updates

-- one update behind the others
advances_more : (stars : List Star) (star : Star) (a b c : EngineSeen) → AdvancesBy a stars b
    → Advance b (Star_update star) c → AdvancesBy a (stars ++ star ∷ []) c
advances_more [] star a b c h more = (c, subst (λ (e : EngineSeen). Advance e (Star_update star) c) h more, refl)
advances_more (s ∷ stars) star a b c h more = (h.0, h.1, advances_more stars star h.0 b c h.2 more)

-- where updates lead
pub record Reaches (a : EngineSeen) (stars : List Star) (b : EngineSeen) : Type 0 where
  pub graph : b.graph ≡ graph_after a.graph stars
  pub vertices : length b.vertices ≡ length a.vertices + length stars
  pub opening : b.opening ≡ a.opening
  pub not_spent : a.spent ≡ false → b.spent ≡ false

pub reaches : (stars : List Star) (a b : EngineSeen) → AdvancesBy a stars b → Reaches a stars b
reaches [] a b h = record {
  graph = ap (λ (e : EngineSeen). e.graph) h;
  vertices = omega (arith, ap (λ (e : EngineSeen). length e.vertices) h);
  opening = ap (λ (e : EngineSeen). e.opening) h;
  not_spent = λ unspent. ap (λ (e : EngineSeen). e.spent) h ∙ unspent;
}
reaches (s ∷ stars) a b h =
    let m : AdvanceByStar a s h.0 = h.1 in
    let r = reaches stars h.0 b h.2 in record {
      graph = r.graph ∙ ap (λ g. graph_after g stars) m.graph;
      vertices = omega (arith, r.vertices, ap length m.vertices, length-append a.vertices (Some s.vertex ∷ []));
      opening = r.opening ∙ m.opening;
      not_spent = λ unspent. r.not_spent m.not_spent;
    }

-- the graph of each number has the vertices of the first
graph_vertices : (stars : List Star) (g : Graph) → (graph_after g stars).vertices ≡ g.vertices
graph_vertices [] g = refl
graph_vertices (s ∷ stars) g = graph_vertices stars (star_of g s)

-- ---- the end of a block

-- no update was taken
pub none_taken : (e : EngineSeen) (stars : List Star) → IsCutOff e stars e
none_taken e stars = record { count = 0; inside = omega arith; reached = e; taken = refl; end = inl refl }

-- all were taken, and memory ran out elsewhere
pub all_taken : (a b : EngineSeen) (stars : List Star) → AdvancesBy a stars b → IsCutOff a stars b
all_taken a b stars h = record {
  count = length stars;
  inside = omega arith;
  reached = b;
  taken = subst (λ xs. AdvancesBy a xs b) (sym (take_all (length stars) stars (omega arith))) h;
  end = inl refl;
}

pub cut_opening : (a b : EngineSeen) (stars : List Star) → IsCutOff a stars b → b.opening ≡ a.opening
cut_opening a b stars h = at b h.end ∙ (reaches (take h.count stars) a h.reached h.taken).opening
  where
    at : (e : EngineSeen) → (e ≡ h.reached) ⊎ IsSpentBy h.reached e → e.opening ≡ h.reached.opening
    at e (inl same) = ap (λ (s : EngineSeen). s.opening) same
    at e (inr spent) = ap (λ (s : EngineSeen). s.opening) spent

pub cut_vertices : (a b : EngineSeen) (stars : List Star) → IsCutOff a stars b → b.graph.vertices ≡ a.graph.vertices
cut_vertices a b stars h =
    at b h.end ∙ ap (λ (g : Graph). g.vertices) (reaches (take h.count stars) a h.reached h.taken).graph
    ∙ graph_vertices (take h.count stars) a.graph
  where
    at : (e : EngineSeen) → (e ≡ h.reached) ⊎ IsSpentBy h.reached e → e.graph.vertices ≡ h.reached.graph.vertices
    at e (inl same) = ap (λ (s : EngineSeen). s.graph.vertices) same
    at e (inr spent) = ap (λ (s : EngineSeen). s.graph.vertices) spent

-- ---- an engine on its way through a plan

module _ (plan : Plan) (is : IsPlan plan) (a : EngineSeen) (start : IsStartOf plan a) (unspent : a.spent ≡ false)
    (n : ℕ) (from_lo : plan.lo ≤ n) (b : EngineSeen) (h : AdvancesBy a (take (n - plan.lo) plan.stars) b) where
  -- it took as many updates as its number is above lo
  pub number_is : n ≤ hi_of plan → length b.vertices ≡ n
  number_is to_hi =
      omega (
        arith,
        (reaches (take (n - plan.lo) plan.stars) a b h).vertices,
        start.number,
        length-take-le (n - plan.lo)
            plan.stars (omega (arith, from_lo, to_hi)),
        from_lo,
      )

  -- it has the graph of the plan's version of its number
  pub version_is : n ≤ hi_of plan → IsVersionOf plan (length b.vertices) b.graph
  version_is to_hi =
      subst (λ k. IsVersionOf plan k b.graph) (sym (number_is to_hi)) (record {
        from_lo = from_lo;
        to_hi = to_hi;
        graph = (reaches (take (n - plan.lo) plan.stars) a b h).graph
            ∙ ap (λ g. graph_after g (take (n - plan.lo) plan.stars)) start.graph;
      })

  pub still_unspent : b.spent ≡ false
  still_unspent = (reaches (take (n - plan.lo) plan.stars) a b h).not_spent unspent

  pub vertices_are : b.graph.vertices ≡ plan.start.vertices
  vertices_are =
      ap (λ (g : Graph). g.vertices) (reaches (take (n - plan.lo) plan.stars) a b h).graph
      ∙ graph_vertices (take (n - plan.lo) plan.stars) a.graph ∙ ap (λ (g : Graph). g.vertices) start.graph

  -- the next star of the plan
  module _ (star : Star) (next : slice_get plan.stars (n + 1 - plan.lo - 1) ≡ Some star) where
    place : n + 1 - plan.lo - 1 ≡ n - plan.lo
    place = omega (arith, from_lo)

    here : slice_get plan.stars (n - plan.lo) ≡ Some star
    here = subst (λ k. slice_get plan.stars k ≡ Some star) place next

    pub star_vertices : star.vertices ≡ plan.start.vertices
    star_vertices =
        subst (λ (s : Star). s.vertices ≡ plan.start.vertices)
        (get_or_from_slice_get plan.stars (n - plan.lo) star star here)
        (All-get_or (λ (s : Star). s.vertices ≡ plan.start.vertices) plan.stars (n - plan.lo) star
        (slice_get_within plan.stars (n - plan.lo) star here) is.vertices)

    pub one_more : (c : EngineSeen) → Advance b (Star_update star) c
        → AdvancesBy a (take (n + 1 - plan.lo) plan.stars) c
    one_more c more =
        let k : n + 1 - plan.lo ≡ n - plan.lo + 1 = omega (arith, from_lo) in
        let front : take (n + 1 - plan.lo) plan.stars ≡ take (n - plan.lo) plan.stars ++ star ∷ [] =
        ap (λ i. take i plan.stars) k ∙ take_more plan.stars (n - plan.lo) star
        (slice_get_within plan.stars (n - plan.lo) star here)
        ∙ ap (λ s. take (n - plan.lo) plan.stars ++ s ∷ [])
        (get_or_from_slice_get plan.stars (n - plan.lo) star star here) in
        subst (λ xs. AdvancesBy a xs c) (sym front) (advances_more (take (n - plan.lo) plan.stars) star a b c h more)

  -- memory ran out in the next update
  pub spent_at : n ≤ hi_of plan → (c : EngineSeen) → IsSpentBy b c → IsCutOff a plan.stars c
  spent_at to_hi c spent =
      record { count = n - plan.lo; inside = omega (arith, from_lo, to_hi); reached = b; taken = h; end = inr spent }

-- ---- the publisher's loop

-- the engine took the updates up to this number, which is announced
pub record IsPublishing (pool : Pool) (plan : Plan) (before : EngineSeen) (number : ℕ) (publisher : Publisher)
    (e : EngineSeen) : Type 0 where
  pub from_lo : plan.lo ≤ number
  pub taken : AdvancesBy before (take (number - plan.lo) plan.stars) e
  pub publisher_of : IsPublisherOf pool publisher
  pub announced : publisher.mark.number ≡ number

pub publishing_starts : (pool : Pool) (plan : Plan) (e : EngineSeen) (publisher : Publisher)
    → CanPublish pool publisher e plan → IsPublishing pool plan e plan.lo publisher e
publishing_starts pool plan e publisher can = record {
  from_lo = omega arith;
  taken = let F : ℕ → Type 0 =
      λ k. AdvancesBy e (take k plan.stars) e in subst F (let z : 0 ≡ plan.lo - plan.lo = omega arith in z) refl;
  publisher_of = can.publisher_of;
  announced = can.announced;
}

module _ (pool : Pool) (plan : Plan) (is : IsPlan plan) (first : Publisher) (before : EngineSeen)
    (can : CanPublish pool first before plan) (n : ℕ) (publisher : Publisher) (e : EngineSeen)
    (h : IsPublishing pool plan before n publisher e) (star : Star)
    (next : slice_get plan.stars (n + 1 - plan.lo - 1) ≡ Some star) where
  below_hi : n < hi_of plan
  below_hi = omega (arith, slice_get_within plan.stars (n + 1 - plan.lo - 1) star next, h.from_lo)

  pub star_fits : star.vertices ≡ e.graph.vertices
  star_fits =
      star_vertices plan is before can.start can.not_spent n h.from_lo e h.taken star next
      ∙ sym (vertices_are plan is before can.start can.not_spent n h.from_lo e h.taken)

  pub updates_few : length e.vertices < 2 ^ 40
  updates_few =
      omega (
        arith,
        number_is plan is before can.start can.not_spent n h.from_lo e h.taken (omega (arith, below_hi)),
        below_hi,
        is.few,
      )

  pub unspent_here : e.spent ≡ false
  unspent_here = still_unspent plan is before can.start can.not_spent n h.from_lo e h.taken

  pub cut_here : (c : EngineSeen) → IsSpentBy e c → IsCutOff before plan.stars c
  cut_here c spent =
      spent_at plan is before can.start can.not_spent n h.from_lo e h.taken (omega (arith, below_hi)) c spent

  module _ (c : EngineSeen) (more : Advance e (Star_update star) c) where
    taken_more : AdvancesBy before (take (n + 1 - plan.lo) plan.stars) c
    taken_more = one_more plan is before can.start can.not_spent n h.from_lo e h.taken star next c more

    pub next_is : IsNextOf pool.plan publisher.mark.number c
    next_is = record {
      not_spent = let m : AdvanceByStar e star c = more in m.not_spent;
      next = omega (
        arith,
        number_is plan is before can.start can.not_spent (n + 1) (omega (arith, h.from_lo)) c
            taken_more (omega (arith, below_hi)),
        h.announced,
      );
      of_plan =
          subst (λ p. IsVersionOf p (length c.vertices) c.graph) (sym can.plan_is)
          (version_is plan is before can.start can.not_spent (n + 1) (omega (arith, h.from_lo)) c taken_more
          (omega (arith, below_hi)));
    }

    pub goes_on : (p : Publisher) → IsPublisherOf pool p → p.mark.number ≡ publisher.mark.number + 1
        → IsPublishing pool plan before (n + 1) p c
    goes_on p of_pool number =
        record {
          from_lo = omega (arith, h.from_lo);
          taken = taken_more;
          publisher_of = of_pool;
          announced = omega
              (arith, number, h.announced);
        }

-- an engine that is not spent answers nothing but want of memory
pub spent_by : {A : Type 0} (x : EngineError) (r : Result A EngineError) (e c : EngineSeen) → r ≡ Err x
    → e.spent ≡ false → ((r ≡ Err error.Spent) ↔ (e.spent ≡ true)) → (r ≡ Err error.Memory → IsSpentBy e c)
    → IsSpentBy e c
spent_by error.Spent r e c is unspent spent memory =
    absurd (let none : ⊥ = (let both : false ≡ true = sym unspent ∙ spent.0 is in cc) in none)
spent_by error.Memory r e c is unspent spent memory = memory is

-- what holds in any case
pub on_err : {A E : Type 0} {P : Type 0} (r : Result A E) → P → OnErr r P
on_err (Ok v) p = tt
on_err (Err x) p = p

-- no star is left
pub at_end : (plan : Plan) (a b : EngineSeen) (n : ℕ) → hi_of plan ≤ n → AdvancesBy a (take (n - plan.lo) plan.stars) b
    → AdvancesBy a plan.stars b
at_end plan a b n done h = subst (λ xs. AdvancesBy a xs b) (take_all (n - plan.lo) plan.stars (omega (arith, done))) h

pub version_inside : (plan : Plan) (v : Version) → IsOfPlan plan v → (x : ℕ) → x < plan.start.vertices
    → x < v.graph.vertices
version_inside plan v of x below =
    omega (
      arith,
      ap (λ (g : Graph). g.vertices) of.graph,
      graph_vertices (take (v.number - plan.lo) plan.stars)
          plan.start,
      below,
    )
