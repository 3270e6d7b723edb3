use Rattle.std.proofs.Common.{◌≡◌, length, ap, ◌∙◌, sym}
use Rattle.apsp_model.specs.Graph.{Graph}
use Rattle.apsp_model.specs.Star.{Star, star_of}
use Rattle.graph_store.specs.Rows.{graph_of_rows}
use Rattle.graph_store.proofs.Graphs.{applied}
use Rattle.graph_store.proofs.graph.Graph.apply.Goals as goal

pub invariant_of-self : goal.invariant_of-self
invariant_of-self c =
    let g = c.self.inside in
    let s = c.star.inside in
    let same : s.vertices ≡ g.vertices =
    ap (λ (t : Star). t.vertices) c.star.view_is ∙ c.requires
    ∙ sym (ap (λ (t : Graph). t.vertices) c.self.view_is) in
    (applied g.vertices s.vertices s.vertex g.cells.len s.out.items s.into.items g.cells.items _ _ _
    c.put_star.new.cells c.self.invariant c.star.invariant same c.deref.ensures.value c.deref-2.ensures.value
    c.deref_mut.ensures.value c.put_star.ensures
    (sym c.deref_mut.ensures.len ∙ ap length c.deref_mut.ensures.value)).rows

pub returns-clause-after : goal.returns-clause-after
returns-clause-after c =
    let g = c.self.inside in
    let s = c.star.inside in
    let same : s.vertices ≡ g.vertices =
    ap (λ (t : Star). t.vertices) c.star.view_is ∙ c.requires
    ∙ sym (ap (λ (t : Graph). t.vertices) c.self.view_is) in
    (applied g.vertices s.vertices s.vertex g.cells.len s.out.items s.into.items g.cells.items _ _ _
    c.put_star.new.cells c.self.invariant c.star.invariant same c.deref.ensures.value c.deref-2.ensures.value
    c.deref_mut.ensures.value c.put_star.ensures
    (sym c.deref_mut.ensures.len ∙ ap length c.deref_mut.ensures.value)).after
    ∙ ap (λ t. star_of (graph_of_rows g.vertices g.cells.items) t) c.star.view_is
    ∙ ap (λ h. star_of h c.args.star.now) c.self.view_is

pub returns-clause-graph : goal.returns-clause-graph
returns-clause-graph c = (invariant_of-self c).graph
