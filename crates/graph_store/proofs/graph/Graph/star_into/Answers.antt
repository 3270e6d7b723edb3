use Rattle.std.proofs.Common.{◌≡◌, ◌<◌, length, ap, ◌∙◌, sym, arith}
use Rattle.apsp_model.specs.Graph.{Graph}
use Rattle.apsp_model.specs.Star.{Star, star_at}
use Rattle.graph_store.specs.Rows.{graph_of_rows}
use Rattle.graph_store.proofs.Graphs.{read_off}
use Rattle.graph_store.proofs.graph.Graph.star_into.Goals as goal

pub invariant_of-star : goal.invariant_of-star
invariant_of-star c =
    let g = c.self.inside in
    let s = c.star.inside in
    let same : s.vertices ≡ g.vertices =
    ap (λ (t : Star). t.vertices) c.star.view_is ∙ c.requires.same
    ∙ sym (ap (λ (t : Graph). t.vertices) c.self.view_is) in
    let inside : c.args.v < g.vertices =
    omega (arith, c.requires.inside, ap (λ (t : Graph). t.vertices) c.self.view_is) in
    (read_off g.vertices s.vertices c.args.v s.into.len g.cells.items _ c.copy_from_slice.new.self.items s.into.items _
    c.take_column.new.column c.self.invariant same inside
    (rw c.deref.ensures.value at c.copy_from_slice.ensures.items) c.deref-2.ensures.value c.deref_mut.ensures.value
    c.star.invariant.into_size c.take_column.ensures
    (sym c.deref_mut.ensures.len ∙ ap length c.deref_mut.ensures.value)).rows

pub returns-clause-star : goal.returns-clause-star
returns-clause-star c =
    let g = c.self.inside in
    let s = c.star.inside in
    let same : s.vertices ≡ g.vertices =
    ap (λ (t : Star). t.vertices) c.star.view_is ∙ c.requires.same
    ∙ sym (ap (λ (t : Graph). t.vertices) c.self.view_is) in
    let inside : c.args.v < g.vertices =
    omega (arith, c.requires.inside, ap (λ (t : Graph). t.vertices) c.self.view_is) in
    (read_off g.vertices s.vertices c.args.v s.into.len g.cells.items _ c.copy_from_slice.new.self.items s.into.items _
    c.take_column.new.column c.self.invariant same inside
    (rw c.deref.ensures.value at c.copy_from_slice.ensures.items) c.deref-2.ensures.value c.deref_mut.ensures.value
    c.star.invariant.into_size c.take_column.ensures
    (sym c.deref_mut.ensures.len ∙ ap length c.deref_mut.ensures.value)).star
    ∙ ap (λ k. star_at (graph_of_rows k g.cells.items) c.args.v) same
    ∙ ap (λ h. star_at h c.args.v) c.self.view_is

pub returns-clause-is_star : goal.returns-clause-is_star
returns-clause-is_star c = (invariant_of-star c).star
