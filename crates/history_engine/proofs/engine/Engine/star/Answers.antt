use Rattle.std.proofs.Common.{ℕ, List, [], ◌∷◌, ◌++◌, ◌+◌, ◌≡◌, true, Option, Some, length, sym, ◌∙◌, ap, subst, arith}
use Rattle.std.proofs.lemmas.List.{length-append}
use Rattle.apsp_model.specs.Graph.{Graph}
use Rattle.apsp_model.specs.Paths.{IsOncePerList}
use Rattle.apsp_model.specs.Star.{star_of}
use Rattle.path_book.specs.Book.{kept_paths}
use Rattle.history_engine.specs.Seen.{EngineSeen, paths_of}
use Rattle.history_engine.specs.Lawful.{IsStepReady}
use Rattle.history_engine.specs.Stepping.{UpdateInvariant}
use Rattle.history_engine.proofs.Moments.{lawful_at}
use Rattle.history_engine.proofs.Updating.{star_ready, taken_back}
use Rattle.history_engine.proofs.Stepping.{update_done}
use Rattle.history_engine.proofs.engine.Engine.star.Given.{Over}
use Rattle.history_engine.proofs.engine.Engine.star.Goals as goal

pub update-made-requires-clause-ready : goal.update-made-requires-clause-ready
update-made-requires-clause-ready g c κs within =
    let paths = kept_paths c.self.inside.book in
    let steps = c.self.inside.progress.steps in
    subst (λ v. IsStepReady v c.apply.new.self steps paths) (sym c.vertex-v.ensures.vertex)
    (subst (λ (h : Graph). IsStepReady c.args.star.now.vertex h steps paths) (sym c.apply.ensures.after)
    (star_ready c.self.inside.graph c.args.star.now steps paths (lawful_at c.self.inside.graph steps paths (c.self.invariant.paths c.if-self.false))))

-- all steps of the update were made
made : (g : Over) (c : goal.After-len g) → UpdateInvariant c.args.self.now c.args.star.now c.apply.new.self []
    c.in-Ok.progress.steps c.in-Ok.progress.formed c.in-Ok.progress.removed (kept_paths c.update-made.new.book)
made g c = c.in-Ok.ensures.done c.args.self.now c.args.star.now (record {
  graph = c.apply.ensures.after ∙ ap (λ (e : EngineSeen). star_of e.graph c.args.star.now) c.self.view_is;
  smooth = sym (ap (λ (e : EngineSeen). e.smooth) c.self.view_is);
  vertices = sym (ap (λ (e : EngineSeen). e.vertices) c.self.view_is);
  vertex = sym c.vertex-v.ensures.vertex;
  steps = sym (ap (λ (e : EngineSeen). e.steps) c.self.view_is);
  paths = sym (ap paths_of c.self.view_is);
})

pub invariant_of-self : goal.invariant_of-self
invariant_of-self g c =
    let same : c.apply.new.self.vertices ≡ c.self.inside.graph.vertices =
    ap (λ (h : Graph). h.vertices) c.apply.ensures.after in
    let more : length c.record.new.self.vertices ≡ length c.self.inside.timeline.vertices + 1 =
    ap length (c.record.ensures.vertices ∙ ap (λ (vs : List (Option ℕ)). vs ++ Some c.vertex-v.result ∷ [])
    c.update-made.ensures.timeline) ∙ length-append c.self.inside.timeline.vertices (Some c.vertex-v.result ∷ []) in
    let now : length c.self.inside.timeline.vertices ≡ length c.args.self.now.vertices =
    ap (λ (e : EngineSeen). length e.vertices) c.self.view_is in
    record {
      star_size = ap (λ s. s.vertices) c.star_into.ensures.star ∙ sym same;
      book_size = λ e. c.in-Ok.ensures.book_size ∙ c.self.invariant.book_size e ∙ sym same;
      timeline_size =
          c.record.ensures.size ∙ c.update-made.ensures.timeline_size ∙ c.self.invariant.timeline_size ∙ sym same;
      few_updates = omega (arith, more, now, c.requires.few);
      few_steps = omega (arith, more, c.in-Ok.ensures.steps_few, c.self.invariant.few_steps);
      paths = λ e. (_, (made g c).lawful);
    }

pub returns-in-Ok-clause-advance : goal.returns-in-Ok-clause-advance
returns-in-Ok-clause-advance g c =
    update_done c.args.self.now c.args.star.now _
    (subst IsOncePerList (ap paths_of c.self.view_is) (c.self.invariant.paths c.if-self.false).1.once)
    (ap (λ (e : EngineSeen). e.opening) c.self.view_is)
    (ap (λ (e : EngineSeen). e.smooth) c.self.view_is)
    (c.apply.ensures.after ∙ ap (λ (e : EngineSeen). star_of e.graph c.args.star.now) c.self.view_is)
    (c.record.ensures.vertices ∙ (λ i. (c.update-made.ensures.timeline
    ∙ ap (λ (e : EngineSeen). e.vertices) c.self.view_is) i ++ Some (c.vertex-v.ensures.vertex i) ∷ []))
    c.if-self.false
    (made g c)

pub returns-in-Err-clause-memory : goal.returns-in-Err-clause-memory
returns-in-Err-clause-memory g c =
    let back : c.apply-in-Err.new.self ≡ c.args.self.now.graph =
    c.apply-in-Err.ensures.after ∙ (λ i. star_of (c.apply.ensures.after i) (c.star_into.ensures.star i))
    ∙ taken_back c.self.inside.graph c.args.star.now c.vertex-v.result c.vertex-v.ensures.vertex
    ∙ ap (λ (e : EngineSeen). e.graph) c.self.view_is in
    λ _ i. record {
      opening = (ap (λ (e : EngineSeen). e.opening) c.self.view_is) i;
      graph = back i;
      smooth = (ap (λ (e : EngineSeen). e.smooth) c.self.view_is) i;
      vertices = (c.update-made.ensures.timeline ∙ ap (λ (e : EngineSeen). e.vertices) c.self.view_is) i;
      steps = (ap (λ (e : EngineSeen). e.steps) c.self.view_is) i;
      formed = (ap (λ (e : EngineSeen). e.formed) c.self.view_is) i;
      removed = (ap (λ (e : EngineSeen). e.removed) c.self.view_is) i;
      spent = true;
      book = c.update-made.new.book;
    }
