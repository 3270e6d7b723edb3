use Rattle.std.proofs.Common.{subst}
use Rattle.path_arena.specs.Records.{IsTaken}
use Rattle.path_arena.proofs.Paths.{live_from_edge}
use Rattle.path_arena.proofs.Stores.{live_slot, lawful_inside}
use Rattle.path_arena.proofs.Calls.{Removed, path_removed}
use Rattle.path_arena.proofs.arena.Arena.remove.Goals as goal

pub remove-requires : goal.remove-requires
remove-requires c =
    live_slot c.self.inside c.args.self.now c.self.view_is c.key.result
    (rw c.key.ensures.value (live_from_edge c.args.self.now c.args.id
    (lawful_inside c.self.inside c.args.self.now c.self.view_is c.self.invariant) c.requires.edge))

removed : (c : goal.After-remove) → Removed c.self.inside.singles.items c.remove.new.self.slots c.args.self.now
    c.args.id
removed c =
    let taken : IsTaken c.self.inside.records.slots c.remove.new.self.slots c.key.result =
    record { here = c.remove.ensures.updates.changed; others = c.remove.ensures.updates.others } in
    path_removed c.self.inside c.args.self.now c.self.view_is c.self.invariant c.remove.new.self.slots c.args.id
    c.requires.edge c.requires.free
    (subst (IsTaken c.self.inside.records.slots c.remove.new.self.slots) c.key.ensures.value taken)

pub invariant_of-self : goal.invariant_of-self
invariant_of-self c = (removed c).kept

pub returns-clause-removed : goal.returns-clause-removed
returns-clause-removed c = (removed c).removed

pub returns-clause-lawful : goal.returns-clause-lawful
returns-clause-lawful c = (removed c).kept.arena
