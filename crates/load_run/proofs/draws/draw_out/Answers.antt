use Rattle.std.proofs.Common.{◌≡◌, suc, ◌+◌, subst, sym, ap, ◌∙◌, arith}
use Rattle.graph_store.specs.Edges.{with_maybe_edge}
use Rattle.load_run.specs.Stars.{HasOut}
use Rattle.load_run.proofs.Drawing.{out_start, out_step, out_skip}
use Rattle.load_run.proofs.draws.draw_out.Goals as goal
use Rattle.load_run.proofs.draws.draw_out.Goals.{then-u-vertex, else-u-vertex}

pub out-init : goal.out-init
out-init c = out_start _ _ _ _ c.requires

pub out-preserved : goal.out-preserved
out-preserved c =
    let v = c.args.star.now.vertex in
    let one : suc c.out.u ≡ c.out.u + 1 = omega arith in
    let here = c.vertex.ensures.vertex ∙ c.out.invariant.vertex in
    subst (λ k. HasOut c.args.star.now.vertices v c.args.draws.now k c.if-u-vertex.star c.if-u-vertex.draws) one
    (elim c.if-u-vertex.branch [
      | then-u-vertex w ↦ out_step _ _ _ c.out.u c.out.star c.out.draws c.if-u-vertex.star c.if-u-vertex.draws
          c.out.invariant (λ e. w.if-u-vertex.true (e ∙ sym here))
          (w.star-is ∙ w.put_out.ensures.after
          ∙ ap (λ o. with_maybe_edge c.out.star (c.out.star.vertex, c.out.u) o) w.weight.ensures.weight)
          (w.draws-is ∙ w.weight.ensures.place)
      | else-u-vertex w ↦ out_skip _ _ _ c.out.u c.out.star c.out.draws c.if-u-vertex.star c.if-u-vertex.draws
          c.out.invariant (w.if-u-vertex.false ∙ here) w.star-is w.draws-is
    ])
