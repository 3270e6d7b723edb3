use Rattle.certificate.specs.Answer.{rest_behind}
use Rattle.certificate.proofs.Adding.{edges_by_vertex_step}
use Rattle.certificate.proofs.read.edges_by_vertex.Goals as goal

pub overflow_sub-left : goal.overflow_sub-left
overflow_sub-left c = c.in_ok-group.ensures.few

pub lines-preserved : goal.lines-preserved
lines-preserved c =
    edges_by_vertex_step c.args.stated.now c.lines.stated c.edge_group.new.stated c.args.count c.lines.counter
    c.lines.left c.lines.before (rest_behind c.args.lines) (rest_behind c.lines.rest) c.in_ok-group.group
    c.lines.invariant c.lines-test.true c.if-left-eq0.false c.in_ok-group.ensures.line c.in_ok-group.ensures.same
    c.in_ok-group.ensures.number
