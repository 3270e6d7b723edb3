use Rattle.std.proofs.Common.{◌≡◌, ◌<◌, ℕ, length, get_or}
use Rattle.id_pool.proofs.head.place_in.Given as goal

abbrev pub invariant-looking : goal.invariant-looking
invariant-looking l =
    (l.place < length l.ids) × ((k : ℕ) → l.place < k → k < length l.ids → get_or l.ids k l.id ≡ l.id → ⊥)

abbrev pub decreases-looking : goal.decreases-looking
decreases-looking l = l.place
