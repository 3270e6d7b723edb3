use Rattle.std.proofs.Common.{ℕ, ◌+◌, ◌≡◌, subst, arith}
use Rattle.fixup.specs.Growth.{RowsAreFormed}
use Rattle.fixup.proofs.Rows.{rows_start, row_new, row_step, row_done, single_weights}
use Rattle.fixup.proofs.starts.form_rows.Goals as goal

pub rows-init : goal.rows-init
rows-init c =
    rows_start c.args.graph.now c.args.birth c.args.book.now c.show_lawful.ensures c.requires.same
    (single_weights c.args.graph.now c.args.birth c.args.book.now c.requires.alone c.show_lawful.ensures
    c.requires.same)

pub edges-init : goal.edges-init
edges-init c = λ b0 h. h

pub form_edge-requires-clause-same : goal.form_edge-requires-clause-same
form_edge-requires-clause-same c = (c.edges.invariant c.args.book.now c.rows.invariant).grown.vertices

pub form_edge-requires-clause-new : goal.form_edge-requires-clause-new
form_edge-requires-clause-new c =
    λ w e. row_new c.args.graph.now c.args.birth c.args.book.now c.requires.alone c.rows.u c.edges.v c.edges.book
    (c.edges.invariant c.args.book.now c.rows.invariant)

pub edges-preserved : goal.edges-preserved
edges-preserved c =
    λ b0 h. row_step c.args.graph.now c.args.birth b0 c.rows.u c.edges.v c.edges.book (c.edges.invariant b0 h)
    c.form_edge.new.book c.in_ok-form_edge.ensures.formed c.form_edge.ensures.lawful

pub rows-preserved : goal.rows-preserved
rows-preserved c =
    let F : ℕ → Type 0 = λ k. RowsAreFormed c.args.graph.now c.args.birth c.args.book.now c.rows.u k c.edges.book in
    let end : c.edges.v ≡ c.args.graph.now.vertices = omega (arith, c.vertices-n.ensures.vertices) in
    row_done c.args.graph.now c.args.birth c.args.book.now c.vertices-n.ensures.graph c.rows.u c.edges.book
    (subst F end (c.edges.invariant c.args.book.now c.rows.invariant))
