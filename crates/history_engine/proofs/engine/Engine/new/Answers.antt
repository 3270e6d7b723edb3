use Rattle.std.proofs.Common.{length, ◌≡◌, sym, ◌∙◌, ap, refl, arith}
use Rattle.apsp_model.specs.Graph.{Graph}
use Rattle.history_engine.proofs.Reading.{opening_lawful, new_stands}
use Rattle.history_engine.proofs.engine.Engine.new.Goals as goal

pub invariant_of-result : goal.invariant_of-result
invariant_of-result c =
    let count : c.in_ok-graph.graph.vertices ≡ c.args.n = ap (λ (g : Graph). g.vertices) c.in_ok-graph.ensures.ok in
    record {
      star_size = ap (λ s. s.vertices) c.in-Ok.ensures.ok ∙ sym count;
      book_size = λ _. c.in-Ok-new.ensures.opening.vertices ∙ sym count;
      timeline_size = c.in-Ok-new-2.ensures.size ∙ sym count;
      few_updates = omega (arith, ap length c.in-Ok-new-2.ensures.vertices);
      few_steps = omega arith;
      paths = λ _. (
        _,
        opening_lawful c.in-Ok-new.book c.args.n c.in-Ok-new.ensures.lawful c.in-Ok-new.ensures.opening
            c.in_ok-graph.graph c.in_ok-graph.ensures.ok,
      );
    }

pub returns-clause-stands : goal.returns-clause-stands
returns-clause-stands c =
    new_stands c.in-Ok-new.book c.args.n c.in-Ok-new.ensures.lawful c.in-Ok-new.ensures.opening _ refl
    c.in_ok-graph.ensures.ok c.in-Ok-new-2.ensures.vertices refl refl refl refl refl
