use Rattle.std.proofs.Common.{◌≡◌, sym, ◌∙◌, ap, refl, arith}
use Rattle.apsp_model.specs.Graph.{Graph}
use Rattle.local_engine.proofs.Reading.{opening_keeps}
use Rattle.local_engine.proofs.engine.LocalEngine.new.Goals as goal

pub invariant_of-result : goal.invariant_of-result
invariant_of-result c =
    let count : c.in_ok-graph.graph.vertices ≡ c.args.n = ap (λ (g : Graph). g.vertices) c.in_ok-graph.ensures.ok in
    record {
      star_size = ap (λ s. s.vertices) c.in-Ok.ensures.ok ∙ sym count;
      few_updates = omega arith;
      book_size = λ _. c.in-Ok-new.ensures.opening.vertices ∙ sym count;
      kept = λ _. opening_keeps c.in-Ok-new.book c.args.n c.in-Ok-new.ensures.lawful c.in-Ok-new.ensures.opening
          c.in_ok-graph.graph c.in_ok-graph.ensures.ok;
    }

pub returns-clause-opened : goal.returns-clause-opened
returns-clause-opened c = record {
  graph = c.in_ok-graph.ensures.ok;
  number = refl;
  not_spent = refl;
  kept = opening_keeps c.in-Ok-new.book c.args.n c.in-Ok-new.ensures.lawful c.in-Ok-new.ensures.opening
      c.in_ok-graph.graph c.in_ok-graph.ensures.ok;
}
