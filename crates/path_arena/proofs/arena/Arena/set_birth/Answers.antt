use Rattle.std.proofs.Common.{◌≡◌, ◌∙◌, ℕ, Some, None, subst, slice_set}
use Rattle.std.proofs.lemmas.List.{get_or-set_other}
use Rattle.path_arena.specs.declared.arena.Record.{Record}
use Rattle.path_arena.specs.Records.{slot_at}
use Rattle.path_arena.proofs.Paths.{live_from_edge}
use Rattle.path_arena.proofs.Stores.{live_slot, lawful_inside}
use Rattle.path_arena.proofs.Births.{Renewed, path_renewed, written}
use Rattle.path_arena.proofs.arena.Arena.set_birth.Goals as goal

pub index_mut-requires : goal.index_mut-requires
index_mut-requires c =
    live_slot c.self.inside c.args.self.now c.self.view_is c.key.result
    (rw c.key.ensures.value (live_from_edge c.args.self.now c.args.id
    (lawful_inside c.self.inside c.args.self.now c.self.view_is c.self.invariant) c.requires))

renewed : (c : goal.After-self-1) → Renewed c.self.inside.singles.items
    (slice_set c.self.inside.records.slots c.key.result (Some (record c.index_mut.result.now { birth = c.args.birth })))
    c.args.self.now c.args.id c.args.birth
renewed c =
    let slots = c.self.inside.records.slots in
    let born : Record = record c.index_mut.result.now { birth = c.args.birth } in
    let new = slice_set slots c.key.result (Some born) in
    let F : ℕ → Type 0 = λ k. slot_at slots k ≡ Some c.index_mut.result.now in
    let G : ℕ → Type 0 = λ k. slot_at new k ≡ Some born in
    let there : slot_at slots c.key.result ≡ Some c.index_mut.result.now = c.index_mut.ensures.value in
    path_renewed c.self.inside c.args.self.now c.self.view_is c.self.invariant new c.args.id c.args.birth
    c.index_mut.result.now c.requires
    (subst F c.key.ensures.value there) (subst G c.key.ensures.value
    (written slots c.key.result c.index_mut.result.now born there))
    (λ k apart. get_or-set_other slots c.key.result k (Some born) None (λ same. apart (same ∙ c.key.ensures.value)))

pub invariant_of-self : goal.invariant_of-self
invariant_of-self c = (renewed c).kept

pub returns-clause-born : goal.returns-clause-born
returns-clause-born c = (renewed c).renewed

pub returns-clause-lawful : goal.returns-clause-lawful
returns-clause-lawful c = (renewed c).kept.arena
