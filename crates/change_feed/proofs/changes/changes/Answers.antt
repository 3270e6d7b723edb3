use Rattle.std.proofs.Common.{◌≡◌, ◌*◌, subst, arith}
use Rattle.change_feed.specs.Changes.{AreChangesBelow}
use Rattle.change_feed.proofs.changes.changes.Goals as goal

pub returns : goal.returns
returns c =
    let n = c.args.next.now.graph.vertices in
    let e : c.rows.x ≡ n = omega (arith, c.rows-test.false, c.rows.auto.x-end, c.vertices-x-end.ensures.vertices) in
    subst (λ x. AreChangesBelow c.args.last.now.graph c.args.next.now.graph (x * n) c.rows.cells.items) e
    c.rows.invariant
