use Rattle.std.proofs.Common.{◌≡◌, ◌<◌, length}
use Rattle.id_pool.proofs.tests.two_lists_are_as_their_contracts_say.Given as goal

abbrev pub invariant-phases : goal.invariant-phases
invariant-phases g l = (length l.lists ≡ 2) × (l.number < 65537)

abbrev pub invariant-steps : goal.invariant-steps
invariant-steps g l = (length l.lists ≡ 2) × (l.number < 65537)
