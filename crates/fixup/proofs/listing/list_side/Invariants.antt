use Rattle.std.proofs.Common.{take}
use Rattle.fixup.specs.Listing.{AreAdded, ListsFrom}
use Rattle.fixup.proofs.listing.list_side.Given as goal

abbrev pub invariant-partners : goal.invariant-partners
invariant-partners l =
    AreAdded (ListsFrom l.arena l.winners l.winner l.side (take l.partner-index l.partners)) l.initial.joins.items
    l.joins.items
