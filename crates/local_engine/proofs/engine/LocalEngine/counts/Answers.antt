use Rattle.std.proofs.Common.{◌∙◌, ap, subst}
use Rattle.local_engine.specs.Seen.{LocalSeen, AreCountsOf}
use Rattle.local_engine.proofs.Reading.{counts_are}
use Rattle.local_engine.proofs.engine.LocalEngine.counts.Goals as goal

pub returns : goal.returns
returns c =
    subst (λ (e : LocalSeen). AreCountsOf e c.counts_of.result) c.self.view_is
    (counts_are (record {
      graph = c.self.inside.graph;
      number = c.self.inside.number;
      spent = c.self.inside.spent;
      book = c.self.inside.book;
    }) c.counts_of.result
    (c.self.invariant.kept (ap (λ (e : LocalSeen). e.spent) c.self.view_is ∙ c.requires))
    c.counts_of.ensures.number c.counts_of.ensures.paths c.counts_of.ensures.shortest)
