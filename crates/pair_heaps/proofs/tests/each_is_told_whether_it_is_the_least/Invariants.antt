use Rattle.std.proofs.Common.{◌≡◌}
use Rattle.pair_heaps.specs.Heaps.{HeapsFit}
use Rattle.pair_heaps.proofs.tests.each_is_told_whether_it_is_the_least.Given as goal

abbrev pub invariant-filling : goal.invariant-filling
invariant-filling g l = HeapsFit l.heaps l.arena × (l.arena.vertices ≡ 3)
