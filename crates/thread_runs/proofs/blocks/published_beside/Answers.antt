use Rattle.std.proofs.Common.{◌≡◌, ◌<◌, ◌≤◌, ◌∙◌, ℕ, All, length, slice_index_or, sym, subst, ap, arith}
use Rattle.apsp_model.specs.Graph.{Graph}
use Rattle.thread_runs.proofs.blocks.published_beside.Goals as goal

pub live_block-requires-clause-can : goal.live_block-requires-clause-can
live_block-requires-clause-can g c κs within =
    let start : c.in_ok-plan.plan.start ≡ c.in_ok-engine.engine.graph =
    c.in_ok-plan.ensures.start ∙ c.graph.ensures.graph in
    let two : c.in_ok-plan.plan.start.vertices ≡ 2 =
    ap (λ (x : Graph). x.vertices) start
    ∙ ap (λ (x : Graph). x.vertices) c.in_ok-engine.ensures.stands.outline.graph ∙ c.in_ok-engine.ensures.opening in
    record {
      not_spent = c.in_ok-engine.ensures.stands.not_spent;
      start = record {
        graph = sym start;
        number = ap length c.in_ok-engine.ensures.stands.outline.vertices ∙ sym c.in_ok-plan.ensures.lo;
      };
      asks_of = λ k d l. let a : _ = c.in_ok-asks.ensures k d l in record {
        from = subst (λ n. (slice_index_or c.in_ok-asks.asks k d).x < n) (sym two) a.0;
        to = subst (λ n. (slice_index_or c.in_ok-asks.asks k d).y < n) (sym two) a.1;
        since = omega (arith, a.2);
      };
    }
