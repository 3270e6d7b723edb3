use Rattle.std.proofs.Common.{length}
use Rattle.cleanup_tasks.proofs.InPlace.{IsRefreshing}
use Rattle.cleanup_tasks.proofs.in_place.refresh.Given as goal

abbrev pub invariant-longest : goal.invariant-longest
invariant-longest l = IsRefreshing l.v l.birth l.initial.book l.book l.rest

abbrev pub decreases-longest : goal.decreases-longest
decreases-longest l = length l.rest
