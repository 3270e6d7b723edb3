use Rattle.std.proofs.Common.{◌≡◌, subst, arith}
use Rattle.std.proofs.lemmas.List.Elements.{All-push}
use Rattle.graph_store.specs.Plan.{Plan, IsVersionOf}
use Rattle.pin_cells.proofs.cells.slots_of.Goals as goal

pub loop-preserved : goal.loop-preserved
loop-preserved c =
    let h = c.in_ok-push.ensures in
    let v = c.filled-spare.result in
    let of_plan = λ (p : Plan). IsVersionOf p v.number v.graph in (
      omega (arith, h.len, c.loop.invariant.0),
      subst of_plan c.new-slot.ensures c.filled-spare.ensures,
      rw h.items (All-push (λ tag. tag ≡ c.args.plan.now) c.loop.slots.items c.new-slot.result c.loop.invariant.2
          c.new-slot.ensures),
    )
