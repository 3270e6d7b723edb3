use Rattle.std.proofs.Common.{◌<◌}
use Rattle.std.specs.Prelude.{ℕ}
use Rattle.extension_lists.specs.Known.{IsKnown}
use Rattle.extension_lists.proofs.tests.an_id_leaves_the_lists_of_one_part.Given as goal

abbrev pub invariant-gone : goal.invariant-gone
invariant-gone g l = (k : ℕ) → k < 8 → IsKnown l.lists k
