use Rattle.std.proofs.Common.{◌≡◌, ◌-◌, ◌≤◌, [], vec_len}
use Rattle.std.specs.List.{All}
use Rattle.pair_heaps.proofs.heaps.Heaps.new.Given as goal

abbrev pub invariant-rows : goal.invariant-rows
invariant-rows l = (vec_len l.pairs ≤ l.places) × All (λ p. p.held ≡ []) l.pairs.items

abbrev pub decreases-rows : goal.decreases-rows
decreases-rows l = l.places - vec_len l.pairs
