use Rattle.std.proofs.Common.{refl, arith}
use Rattle.path_arena.specs.Arena.{joined_path}
use Rattle.path_arena.proofs.Calls.{Added, join_added, right_is_live, JoinFacts, join_facts}
use Rattle.path_arena.proofs.arena.Arena.join.Goals as goal

pub record-overlap-requires : goal.record-overlap-requires
record-overlap-requires c =
    right_is_live c.args.self.now c.args.l c.args.r c.record-left.ensures.lawful c.requires c.record-left.result.now
    c.record-left.ensures.describes

facts : (c : goal.After-record-overlap) → JoinFacts c.args.self.now c.args.l c.args.r c.args.birth
    c.record-left.result.now c.record-right.result.now c.record-overlap.result.now
facts c =
    join_facts c.args.self.now c.args.l c.args.r c.args.birth c.record-left.ensures.lawful c.requires _ _ _
    c.record-left.ensures.describes c.record-right.ensures.describes c.record-overlap.ensures.describes

pub overflow_sub-joined : goal.overflow_sub-joined
overflow_sub-joined c = (facts c).lighter

pub overflow_add-joined : goal.overflow_add-joined
overflow_add-joined c = omega (arith, (facts c).weight_fits)

pub overflow_add-joined-2 : goal.overflow_add-joined-2
overflow_add-joined-2 c = omega (arith, (facts c).hops_fit)

added : (c : goal.After-put) → Added c.self.inside.singles.items c.put.new.records.slots c.args.self.now
    (joined_path c.args.self.now c.args.l c.args.r c.args.birth) c.put.result
added c =
    let f : JoinFacts c.args.self.now c.args.l c.args.r c.args.birth c.record-left.result.now c.record-right.result.now
    c.record-overlap.result.now =
    join_facts c.args.self.now c.args.l c.args.r c.args.birth c.record-left.ensures.lawful c.requires _ _ _
    c.record-left.ensures.describes c.record-right.ensures.describes c.record-overlap.ensures.describes in
    join_added c.self.inside c.args.self.now c.self.view_is c.self.invariant c.put.new.records.slots
    c.args.l c.args.r c.args.birth _ c.requires (f.is _ refl) c.put.result c.put.ensures.ok c.put.ensures.memory

pub invariant_of-self : goal.invariant_of-self
invariant_of-self c = (added c).kept

pub returns-clause-fresh : goal.returns-clause-fresh
returns-clause-fresh c = (added c).fresh

pub returns-clause-added : goal.returns-clause-added
returns-clause-added c = (added c).added

pub returns-clause-lawful : goal.returns-clause-lawful
returns-clause-lawful c = (added c).kept.arena
