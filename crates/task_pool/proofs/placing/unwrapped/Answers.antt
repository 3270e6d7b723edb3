use Rattle.task_pool.proofs.Filling.{unwraps, rest_some}
use Rattle.task_pool.proofs.placing.unwrapped.Goals as goal

pub loop-place-preserved : goal.loop-place-preserved
loop-place-preserved g c =
    let steps = c.in-Some.ensures.steps.0 in
    let i = c.loop-place.invariant in (
      unwraps c.loop-place.answers.items c.push.new.self.items c.loop-place.place-iterator.rest.items
          c.next.new.self.rest.items c.args.places.items c.in-Some-place.out c.in-Some.place i.0 steps
          c.in-Some-place.is c.in-Ok-push.ensures.items,
      rest_some c.loop-place.place-iterator.rest.items c.next.new.self.rest.items c.in-Some.place steps i.1,
    )
