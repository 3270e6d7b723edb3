use Rattle.std.proofs.Common.{ℕ, ◌≡◌, ◌≤◌, length, ap, ◌∙◌, sym, arith}
use Rattle.apsp_model.specs.Graph.{Graph, widened}
use Rattle.graph_store.proofs.Wide.{wider}
use Rattle.graph_store.proofs.graph.Graph.widen_into.Goals as goal

pub invariant_of-other : goal.invariant_of-other
invariant_of-other c =
    let g = c.self.inside in
    let o = c.other.inside in
    let fewer : g.vertices ≤ o.vertices =
    omega (
      arith,
      c.requires,
      ap (λ (t : Graph). t.vertices) c.self.view_is,
      ap (λ (t : Graph). t.vertices)
          c.other.view_is,
    ) in
    (wider o.vertices g.vertices o.cells.len g.cells.items c.deref.result.now o.cells.items c.put_rows.new.wide fewer
    c.self.invariant c.other.invariant c.deref.ensures.value c.put_rows.ensures
    (sym c.deref_mut.ensures.len ∙ ap length c.deref_mut.ensures.value)).rows_of

pub returns-clause-wider : goal.returns-clause-wider
returns-clause-wider c =
    let g = c.self.inside in
    let o = c.other.inside in
    let fewer : g.vertices ≤ o.vertices =
    omega (
      arith,
      c.requires,
      ap (λ (t : Graph). t.vertices) c.self.view_is,
      ap (λ (t : Graph). t.vertices)
          c.other.view_is,
    ) in
    (wider o.vertices g.vertices o.cells.len g.cells.items c.deref.result.now o.cells.items c.put_rows.new.wide fewer
    c.self.invariant c.other.invariant c.deref.ensures.value c.put_rows.ensures
    (sym c.deref_mut.ensures.len ∙ ap length c.deref_mut.ensures.value)).after
    ∙ ap (λ h. widened h o.vertices) c.self.view_is
    ∙ ap (λ (t : Graph). widened c.args.self.now t.vertices) c.other.view_is

pub returns-clause-graph : goal.returns-clause-graph
returns-clause-graph c = (invariant_of-other c).graph
