use Rattle.std.proofs.Common.{◌-◌, length, drop, Contains}
use Rattle.pair_heaps.proofs.entries.place_in.Given as goal

abbrev pub invariant-others : goal.invariant-others
invariant-others l = Contains (drop l.place l.ids) l.id

abbrev pub decreases-others : goal.decreases-others
decreases-others l = length l.ids - l.place
