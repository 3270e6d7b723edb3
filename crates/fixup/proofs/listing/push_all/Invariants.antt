use Rattle.std.proofs.Common.{◌≡◌, ◌+◌, ◌++◌, take, map, vec_len, vec_capacity}
use Rattle.fixup.specs.Listing.{join_at}
use Rattle.fixup.proofs.listing.push_all.Given as goal

abbrev pub invariant-partners : goal.invariant-partners
invariant-partners l =
    (l.joins.items ≡ l.initial.joins.items ++ map (join_at l.side l.winner) (take l.partner-index l.partners))
    × (vec_len l.joins ≡ vec_len l.initial.joins + l.partner-index)
    × (vec_capacity l.joins ≡ vec_capacity l.initial.joins)
