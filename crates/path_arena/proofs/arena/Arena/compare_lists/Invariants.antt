use Rattle.std.proofs.Common.{◌≡◌, length}
use Rattle.std.specs.Ordering.{nat_cmp}
use Rattle.std.specs.Cmp.Lexicographic.{slice_cmp}
use Rattle.path_arena.specs.Arena.{IsLive, list_of}
use Rattle.path_arena.proofs.arena.Arena.compare_lists.Given as goal

abbrev pub invariant-loop-a : goal.invariant-loop-a
invariant-loop-a l = record {
  first : IsLive l.self l.a;
  second : IsLive l.self l.b;
  alike : length (list_of l.self l.a) ≡ length (list_of l.self l.b);
  same : slice_cmp nat_cmp (list_of l.self l.initial.a) (list_of l.self l.initial.b) ≡ slice_cmp nat_cmp
      (list_of l.self l.a) (list_of l.self l.b);
}

abbrev pub decreases-loop-a : goal.decreases-loop-a
decreases-loop-a l = length (list_of l.self l.a)
