use Rattle.std.proofs.Common.{arith}
use Rattle.std.proofs.lemmas.Result.{err_from_is_err_and}
use Rattle.certificate.specs.Answer.{rest_behind, edge_item}
use Rattle.certificate.proofs.Loops.{edges_begin, edges_step, edges_fail, edges_end, edge_still_fits}
use Rattle.certificate.proofs.read.edges_by_item.Goals as goal

pub edges-init : goal.edges-init
edges-init c = edges_begin _ _ _ _ c.requires.none

pub edge_line-requires-clause-number : goal.edge_line-requires-clause-number
edge_line-requires-clause-number c =
    omega (arith, c.edges.invariant.items.number, c.requires.number, c.edges-test.true)

pub returns-in_err-edge-clause-edges : goal.returns-in_err-edge-clause-edges
returns-in_err-edge-clause-edges c =
    let p = err_from_is_err_and c.from_residual.result c.from_residual.ensures.1 in
    rw (p.1, p.2) (edges_fail c.args.stated.now c.edges.stated c.vertices-n.result c.args.count c.edges.counter
    c.edges.before (rest_behind c.args.lines) (rest_behind c.edges.rest)
    c.in_err-edge.field-0.0 c.vertices-n.ensures.vertices c.edges.invariant
    c.edges-test.true c.in_err-edge.ensures.line)

pub put_edge-requires : goal.put_edge-requires
put_edge-requires c =
    edge_still_fits c.args.stated.now c.edges.stated c.vertices-n.result c.args.count c.edges.counter
    c.edges.before (rest_behind c.args.lines) (rest_behind c.edges.rest) (edge_item c.in_ok-edge.edge)
    c.vertices-n.ensures.vertices c.edges.invariant c.in_ok-edge.ensures.fits

pub edges-preserved : goal.edges-preserved
edges-preserved c =
    edges_step c.args.stated.now c.edges.stated c.put_edge.new.self c.vertices-n.result c.args.count
    c.edges.counter c.edges.before (rest_behind c.args.lines) (rest_behind c.edges.rest)
    (rest_behind c.in_ok-edge.behind) (edge_item c.in_ok-edge.edge) c.edges.invariant c.edges-test.true
    c.in_ok-edge.ensures.line c.in_ok-edge.ensures.number c.put_edge.ensures

pub returns-clause-edges : goal.returns-clause-edges
returns-clause-edges c =
    edges_end c.args.stated.now c.edges.stated c.vertices-n.result c.args.count c.edges.counter c.edges.before
    (rest_behind c.args.lines) (rest_behind c.edges.rest) c.vertices-n.ensures.vertices
    c.edges.invariant c.edges-test.false

pub returns-clause-number : goal.returns-clause-number
returns-clause-number c = omega (arith, c.edges.invariant.items.number, c.edges.auto.counter-end)
