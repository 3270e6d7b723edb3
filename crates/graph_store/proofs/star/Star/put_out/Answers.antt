use Rattle.std.proofs.Common.{◌≢◌, ◌<◌, ap, ◌∙◌, arith}
use Rattle.apsp_model.specs.Star.{Star}
use Rattle.graph_store.specs.Edges.{with_maybe_edge}
use Rattle.graph_store.proofs.Sets.{out_edge_put, out_row_put}
use Rattle.graph_store.proofs.star.Star.put_out.Goals as goal

pub invariant_of-self : goal.invariant_of-self
invariant_of-self c =
    let s = c.self.inside in
    let inside : c.args.u < s.vertices =
    omega (arith, ap (λ (t : Star). t.vertices) c.self.view_is, c.requires.inside) in
    let apart : c.args.u ≢ s.vertex = λ e. c.requires.apart (e ∙ ap (λ (t : Star). t.vertex) c.self.view_is) in
    out_row_put s.vertices s.vertex s.out.items s.into.items c.args.u c.self.invariant inside apart c.args.w
    c.requires.weight

pub returns-clause-after : goal.returns-clause-after
returns-clause-after c =
    let s = c.self.inside in
    let inside : c.args.u < s.vertices =
    omega (arith, ap (λ (t : Star). t.vertices) c.self.view_is, c.requires.inside) in
    let apart : c.args.u ≢ s.vertex = λ e. c.requires.apart (e ∙ ap (λ (t : Star). t.vertex) c.self.view_is) in
    out_edge_put s.vertices s.vertex s.out.items s.into.items c.args.u c.self.invariant inside apart c.args.w
    c.requires.weight
    ∙ ap (λ (t : Star). with_maybe_edge t (t.vertex, c.args.u) c.args.w) c.self.view_is

pub returns-clause-star : goal.returns-clause-star
returns-clause-star c = (invariant_of-self c).star
