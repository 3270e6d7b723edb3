use Rattle.history_engine.specs.Times.{AreTimesUpto}
use Rattle.history_engine.proofs.timeline.wider.Given as goal

abbrev pub invariant-vertices : goal.invariant-vertices
invariant-vertices l = AreTimesUpto l.n l.v l.latest l.wide.items
