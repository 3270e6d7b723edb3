use Rattle.std.proofs.Common.{◌<◌, All, take}
use Rattle.engine_runs.proofs.rows.birth.Given as goal

abbrev pub invariant-list : goal.invariant-list
invariant-list l = All (λ v. v < l.n) (take l.v-index l.list)
