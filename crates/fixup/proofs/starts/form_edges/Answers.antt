use Rattle.fixup.specs.Growth.{EdgesAreFormed}
use Rattle.fixup.proofs.Starting.{edges_start, out_new, in_new_edge, out_step, in_step}
use Rattle.std.proofs.Common.{◌+◌}
use Rattle.fixup.proofs.starts.form_edges.Goals as goal

pub edges-init : goal.edges-init
edges-init c =
    edges_start c.args.graph.now c.args.v c.args.birth c.args.book.now c.show_lawful.ensures c.requires.same
    c.requires.ready

pub form_edge-requires-clause-new : goal.form_edge-requires-clause-new
form_edge-requires-clause-new c =
    λ w e. out_new c.args.graph.now c.args.v c.args.birth c.args.book.now c.show_lawful.ensures c.requires.same
    c.requires.ready c.edges.u c.edges.u c.edges.book c.edges.invariant c.vertices-n.ensures.graph w e

pub form_edge-requires-in-edges-clause-new : goal.form_edge-requires-in-edges-clause-new
form_edge-requires-in-edges-clause-new c = λ w e.
    let s : EdgesAreFormed c.args.graph.now c.args.v c.args.birth c.args.book.now (c.edges.u + 1) c.edges.u
    c.form_edge.new.book = out_step c.args.graph.now c.args.v c.args.birth c.args.book.now c.show_lawful.ensures
    c.requires.same c.requires.ready c.edges.u c.edges.u c.edges.book c.edges.invariant c.form_edge.new.book
    c.in_ok-form_edge.ensures.formed c.form_edge.ensures.lawful in
    in_new_edge c.args.graph.now c.args.v c.args.birth c.args.book.now c.show_lawful.ensures c.requires.same
    c.requires.ready (c.edges.u + 1) c.edges.u c.form_edge.new.book s c.vertices-n.ensures.graph w e

pub edges-preserved : goal.edges-preserved
edges-preserved c =
    let s : EdgesAreFormed c.args.graph.now c.args.v c.args.birth c.args.book.now (c.edges.u + 1) c.edges.u
    c.form_edge.new.book = out_step c.args.graph.now c.args.v c.args.birth c.args.book.now c.show_lawful.ensures
    c.requires.same c.requires.ready c.edges.u c.edges.u c.edges.book c.edges.invariant c.form_edge.new.book
    c.in_ok-form_edge.ensures.formed c.form_edge.ensures.lawful in
    in_step c.args.graph.now c.args.v c.args.birth c.args.book.now c.show_lawful.ensures c.requires.same
    c.requires.ready (c.edges.u + 1) c.edges.u c.form_edge.new.book s c.form_edge-in-edges.new.book
    c.in_ok-form_edge-2.ensures.formed c.form_edge-in-edges.ensures.lawful
