use Rattle.std.proofs.Common.{◌<◌, Some, subst, sym, arith}
use Rattle.std.proofs.lemmas.List.Elements.{All-pop}
use Rattle.task_pool.proofs.Filling.{IsPlacing, placing_starts, placing_goes}
use Rattle.task_pool.proofs.placing.placed.Goals as goal

pub loop-answer-init : goal.loop-answer-init
loop-answer-init g c =
    placing_starts c.args.tasks c.args.done.items c.in_ok-all.all.items c.requires.below c.requires.covers
    c.in_ok-all.ensures

pub put-requires : goal.put-requires
put-requires g c =
    let all =
    All-pop (λ d. d.task < c.args.tasks) c.loop-answer.done.items c.pop.new.self.items (Some c.in-Some.answer)
    c.in-Some.ensures.items c.loop-answer.invariant.below in
    let low = all.1 in
    let len = c.loop-answer.invariant.len in
    omega arith

pub loop-answer-preserved : goal.loop-answer-preserved
loop-answer-preserved g c = let P = IsPlacing c.args.tasks c.args.done.items c.pop.new.self.items in
    subst P (sym c.put.ensures) (placing_goes c.args.tasks c.args.done.items c.loop-answer.done.items
    c.pop.new.self.items c.loop-answer.all.items c.in-Some.answer c.in-Some.ensures.items c.loop-answer.invariant)
