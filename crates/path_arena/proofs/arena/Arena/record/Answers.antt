use Rattle.path_arena.proofs.Stores.{live_slot, slot_describes}
use Rattle.path_arena.proofs.arena.Arena.record.Goals as goal

pub index-requires : goal.index-requires
index-requires c =
    live_slot c.self.inside c.args.self.now c.self.view_is c.key.result (rw c.key.ensures.value c.requires)

pub returns-clause-describes : goal.returns-clause-describes
returns-clause-describes c =
    slot_describes c.self.inside c.args.self.now c.self.view_is c.self.invariant c.args.id c.index.result.now
    (rw c.key.ensures.value at c.index.ensures)
