use Rattle.std.proofs.Common.{length, Some, ap, ◌∙◌}
use Rattle.std.proofs.lemmas.Result.{err_from_is_err_and}
use Rattle.apsp_model.specs.Star.{Star}
use Rattle.graph_store.specs.Rows.{star_of_rows}
use Rattle.graph_store.specs.Edges.{with_edge}
use Rattle.graph_store.proofs.Sets.{new_cell, in_answer, in_edge_put, in_row_put, also_ok, also_err}
use Rattle.graph_store.proofs.star.Star.set_in.Goals as goal

pub returns-in_err-weight-clause-answer : goal.returns-in_err-weight-clause-answer
returns-in_err-weight-clause-answer c =
    let s = c.self.inside in
    let p = err_from_is_err_and c.from_residual.result c.from_residual.ensures.1 in
    rw (p.1, p.2) (also_err _ _ c.args.w _
    (in_answer s.vertices s.vertex s.out.items s.into.items c.args.u c.self.invariant _ c.args.self.now c.args.w
    c.deref.ensures.value c.self.view_is) c.in_err-weight.ensures)

pub invariant_of-self : goal.invariant_of-self
invariant_of-self c =
    let s = c.self.inside in
    let x = new_cell s.vertices (length c.deref.result.now) s.vertex _ c.args.u c.args.w c.in_ok-weight.weight
    (ap length c.deref.ensures.value ∙ c.self.invariant.into_size) c.in_ok-weight.ensures in
    in_row_put s.vertices s.vertex s.out.items s.into.items c.args.u c.self.invariant x.inside x.apart _ x.range

pub returns-clause-answer : goal.returns-clause-answer
returns-clause-answer c =
    let s = c.self.inside in
    also_ok _ _ c.args.w _ (in_answer s.vertices s.vertex s.out.items s.into.items c.args.u c.self.invariant _
    c.args.self.now c.args.w c.deref.ensures.value c.self.view_is) c.in_ok-weight.ensures

pub returns-clause-ok : goal.returns-clause-ok
returns-clause-ok c =
    let s = c.self.inside in
    let x = new_cell s.vertices (length c.deref.result.now) s.vertex _ c.args.u c.args.w c.in_ok-weight.weight
    (ap length c.deref.ensures.value ∙ c.self.invariant.into_size) c.in_ok-weight.ensures in
    in_edge_put s.vertices s.vertex s.out.items s.into.items c.args.u c.self.invariant x.inside x.apart
    (Some c.in_ok-weight.weight) x.range
    ∙ ap (with_edge (star_of_rows s.vertices s.vertex s.out.items s.into.items) (c.args.u, s.vertex)) x.weight
    ∙ ap (λ (t : Star). with_edge t (c.args.u, t.vertex) c.args.w) c.self.view_is

pub returns-clause-star : goal.returns-clause-star
returns-clause-star c = (invariant_of-self c).star
