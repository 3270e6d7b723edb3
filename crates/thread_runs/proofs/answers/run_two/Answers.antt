use Rattle.std.proofs.Common.{◌≡◌, ◌<◌, ◌≤◌, ◌∙◌, ℕ, All, length, slice_index_or, sym, subst, ap}
use Rattle.apsp_model.specs.Graph.{Graph}
use Rattle.thread_runs.proofs.answers.run_two.Goals as goal

pub live_block-requires-clause-can : goal.live_block-requires-clause-can
live_block-requires-clause-can g c κs within =
    let start : c.in_ok-plan.plan.start ≡ c.in_ok-engine.engine.graph =
    c.in_ok-plan.ensures.start ∙ c.graph.ensures.graph in
    let three : c.in_ok-plan.plan.start.vertices ≡ 3 =
    ap (λ (x : Graph). x.vertices) start
    ∙ ap (λ (x : Graph). x.vertices) c.in_ok-engine.ensures.stands.outline.graph ∙ c.in_ok-engine.ensures.opening in
    record {
      not_spent = c.in_ok-engine.ensures.stands.not_spent;
      start = record {
        graph = sym start;
        number = ap length c.in_ok-engine.ensures.stands.outline.vertices ∙ sym c.in_ok-plan.ensures.lo;
      };
      asks_of = λ k d l. let a : _ = c.requires.asks k d l in record {
        from = subst (λ n. (slice_index_or c.args.asks.now k d).x < n) (sym three) a.0;
        to = subst (λ n. (slice_index_or c.args.asks.now k d).y < n) (sym three) a.1;
        since = subst (λ n. (slice_index_or c.args.asks.now k d).since ≤ n) (sym c.in_ok-plan.ensures.stars) a.2;
      };
    }
