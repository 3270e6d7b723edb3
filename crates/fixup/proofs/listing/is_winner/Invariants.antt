use Rattle.std.proofs.Common.{◌-◌}
use Rattle.fixup.proofs.Searching.{IsSearching}
use Rattle.fixup.proofs.listing.is_winner.Given as goal

abbrev pub invariant-search : goal.invariant-search
invariant-search l = IsSearching l.arena l.winners l.id l.low l.high

abbrev pub decreases-search : goal.decreases-search
decreases-search l = l.high - l.low
