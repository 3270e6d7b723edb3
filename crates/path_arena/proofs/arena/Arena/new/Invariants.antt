use Rattle.path_arena.proofs.Calls.{IsFilled}
use Rattle.path_arena.proofs.arena.Arena.new.Given as goal

abbrev pub invariant-loop-v : goal.invariant-loop-v
invariant-loop-v l = IsFilled l.singles.items l.records.slots l.v
