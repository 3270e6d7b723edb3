use Rattle.std.proofs.Common.{vec_len}
use Rattle.weight_classes.specs.Inside.{IsQueue}
use Rattle.weight_classes.proofs.buckets.next.Given as goal

abbrev pub invariant-turns : goal.invariant-turns
invariant-turns l = IsQueue l.turns.items l.buckets

abbrev pub decreases-turns : goal.decreases-turns
decreases-turns l = vec_len l.turns
