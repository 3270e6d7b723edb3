use Rattle.std.proofs.Common.{◌≡◌, ◌+◌, ◌≤◌, ◌++◌, take, length, vec_len, vec_capacity}
use Rattle.cleanup_tasks.proofs.search.push_all.Given as goal

abbrev pub invariant-more : goal.invariant-more
invariant-more l =
    (l.ids.items ≡ l.initial.ids.items ++ take l.id-index l.more) × (vec_len l.ids ≡ vec_len l.initial.ids + l.id-index)
    × (vec_len l.initial.ids + length l.more ≤ vec_capacity l.ids)
