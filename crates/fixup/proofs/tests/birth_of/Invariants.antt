use Rattle.std.proofs.Common.{◌<◌, All, take}
use Rattle.fixup.proofs.tests.birth_of.Given as goal

abbrev pub invariant-list : goal.invariant-list
invariant-list l = All (λ v. v < l.n) (take l.v-index l.list)
