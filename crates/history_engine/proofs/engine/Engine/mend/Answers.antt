use Rattle.std.proofs.Common.{◌≡◌, true, ap, refl, arith}
use Rattle.history_engine.specs.Seen.{EngineSeen}
use Rattle.history_engine.proofs.Mends.{mend_done}
use Rattle.history_engine.proofs.engine.Engine.mend.Goals as goal

pub invariant_of-self : goal.invariant_of-self
invariant_of-self g c =
    let now : c.self.inside.progress.steps ≡ c.args.self.now.steps = ap (λ (e : EngineSeen). e.steps) c.self.view_is in
    record {
      star_size = c.self.invariant.star_size;
      book_size = λ _. c.in-Ok.ensures.book_size;
      timeline_size = c.self.invariant.timeline_size;
      few_updates = c.self.invariant.few_updates;
      few_steps = omega (arith, now, c.requires.few);
      paths = λ _. (_, c.in-Ok.ensures.done.lawful);
    }

pub returns-in-Ok-clause-advance : goal.returns-in-Ok-clause-advance
returns-in-Ok-clause-advance g c =
    mend_done c.args.self.now _ c.self.inside.graph c.self.inside.progress.steps c.in-Ok.made.formed
    (ap (λ (e : EngineSeen). e.graph) c.self.view_is)
    (ap (λ (e : EngineSeen). e.steps) c.self.view_is)
    (ap (λ (e : EngineSeen). e.opening) c.self.view_is)
    (ap (λ (e : EngineSeen). e.smooth) c.self.view_is)
    refl
    (ap (λ (e : EngineSeen). e.vertices) c.self.view_is)
    refl
    (ap (λ (e : EngineSeen). e.formed) c.self.view_is)
    (ap (λ (e : EngineSeen). e.removed) c.self.view_is)
    refl
    c.in-Ok.ensures.done

pub returns-in-Err-clause-memory : goal.returns-in-Err-clause-memory
returns-in-Err-clause-memory g c = λ i. record {
  opening = (ap (λ (e : EngineSeen). e.opening) c.self.view_is) i;
  graph = (ap (λ (e : EngineSeen). e.graph) c.self.view_is) i;
  smooth = (ap (λ (e : EngineSeen). e.smooth) c.self.view_is) i;
  vertices = (ap (λ (e : EngineSeen). e.vertices) c.self.view_is) i;
  steps = (ap (λ (e : EngineSeen). e.steps) c.self.view_is) i;
  formed = (ap (λ (e : EngineSeen). e.formed) c.self.view_is) i;
  removed = (ap (λ (e : EngineSeen). e.removed) c.self.view_is) i;
  spent = true;
  book = c.self.inside.book;
}
