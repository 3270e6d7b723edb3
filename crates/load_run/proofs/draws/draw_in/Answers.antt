use Rattle.std.proofs.Common.{◌≡◌, suc, ◌+◌, subst, sym, ap, ◌∙◌, arith}
use Rattle.graph_store.specs.Edges.{with_maybe_edge}
use Rattle.load_run.specs.Stars.{HasBoth}
use Rattle.load_run.proofs.Drawing.{both_start, both_step, both_skip, none_yet}
use Rattle.load_run.proofs.draws.draw_in.Goals as goal
use Rattle.load_run.proofs.draws.draw_in.Goals.{then-u-vertex, else-u-vertex}

pub put_in-requires-clause-inside : goal.put_in-requires-clause-inside
put_in-requires-clause-inside c =
    let w = c.requires.some in
    let h = c.into.invariant w.0 w.1 in
    omega (arith, c.into-test.true, h.vertices, c.vertices-u-end.ensures.vertices)

pub put_in-requires-clause-none : goal.put_in-requires-clause-none
put_in-requires-clause-none c =
    let w = c.requires.some in
    let h = c.into.invariant w.0 w.1 in
    none_yet _ _ _ c.into.u c.into.star _ h (λ e. c.if-u-vertex.true (e ∙ sym (c.vertex.ensures.vertex ∙ h.vertex)))

pub into-init : goal.into-init
into-init c s h = both_start _ _ _ _ _ h c.requires.inside

pub into-preserved : goal.into-preserved
into-preserved c s given =
    let h = c.into.invariant s given in
    let one : suc c.into.u ≡ c.into.u + 1 = omega arith in
    let here = c.vertex.ensures.vertex ∙ h.vertex in
    subst (λ k. HasBoth c.args.star.now.vertices c.args.star.now.vertex s k c.if-u-vertex.star c.if-u-vertex.draws) one
    (elim c.if-u-vertex.branch [
      | then-u-vertex w ↦ both_step _ _ _ c.into.u c.into.star c.into.draws c.if-u-vertex.star c.if-u-vertex.draws h
          (λ e. w.if-u-vertex.true (e ∙ sym here))
          (w.star-is ∙ w.put_in.ensures ∙ ap (λ o. with_maybe_edge c.into.star (c.into.u, c.into.star.vertex) o)
          w.weight.ensures.weight) (w.draws-is ∙ w.weight.ensures.place)
      | else-u-vertex w ↦ both_skip _ _ _ c.into.u c.into.star c.into.draws c.if-u-vertex.star c.if-u-vertex.draws h
          (w.if-u-vertex.false ∙ here) w.star-is w.draws-is
    ])
