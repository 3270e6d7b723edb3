use Rattle.pair_heaps.specs.Heaps.{HeapsFit}
use Rattle.pair_heaps.proofs.tests.comes_out.Given as goal

abbrev pub invariant-emptying : goal.invariant-emptying
invariant-emptying l = HeapsFit l.heaps l.arena
