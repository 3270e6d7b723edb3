use Rattle.std.proofs.Common.{◌≡◌, subst, arith, rules}
use Rattle.path_arena.proofs.Calls.{Opened, IsFilled, filled_none, filled_more, filled_all}
use Rattle.path_arena.proofs.arena.Arena.new.Goals as goal

pub loop-v-init : goal.loop-v-init
loop-v-init c = filled_none _ _ (search rules) (search rules)

pub loop-v-preserved : goal.loop-v-preserved
loop-v-preserved c =
    filled_more c.loop-v.singles.items c.push.new.self.items c.loop-v.records.slots c.put.new.records.slots c.loop-v.v
    c.in_ok-id.id c.single_record.result c.loop-v.invariant c.single_record.ensures (search rules) (search rules)

opened : (c : goal.After-loop-v) → Opened c.loop-v.singles.items c.loop-v.records.slots c.args.n
opened c =
    let F = IsFilled c.loop-v.singles.items c.loop-v.records.slots in
    let all : c.loop-v.v ≡ c.args.n = omega arith in
    filled_all _ _ c.args.n c.requires.some c.requires.most (subst F all c.loop-v.invariant)

pub invariant_of-result : goal.invariant_of-result
invariant_of-result c = (opened c).kept

pub returns-clause-opening : goal.returns-clause-opening
returns-clause-opening c = (opened c).opening

pub returns-clause-lawful : goal.returns-clause-lawful
returns-clause-lawful c = (opened c).kept.arena
