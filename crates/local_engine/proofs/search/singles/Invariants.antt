use Rattle.local_engine.specs.Demoting.{AreSingleIds}
use Rattle.local_engine.proofs.search.singles.Given as goal

abbrev pub invariant-vertices : goal.invariant-vertices
invariant-vertices l = AreSingleIds l.book l.v l.ids.items
