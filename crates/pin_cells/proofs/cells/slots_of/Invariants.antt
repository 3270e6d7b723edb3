use Rattle.std.proofs.Common.{◌≡◌, All, vec_len}
use Rattle.pin_cells.specs.Pinned.{IsOfPlan}
use Rattle.pin_cells.proofs.cells.slots_of.Given as goal

abbrev pub invariant-loop : goal.invariant-loop
invariant-loop l = (vec_len l.slots ≡ l.counter) × IsOfPlan l.plan l.spare × All (λ tag. tag ≡ l.plan) l.slots.items
