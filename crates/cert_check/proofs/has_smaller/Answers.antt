use Rattle.std.proofs.Common.{arith}
use Rattle.cert_check.proofs.Ways.{none_smaller}
use Rattle.cert_check.proofs.has_smaller.Goals as goal

pub returns : goal.returns
returns c =
    none_smaller c.args.stated.now c.args.x c.args.y c.args.stated.now.graph.vertices c.args.entry c.args.ends.now
    c.requires.ends
    (λ i w d p. c.ways.invariant i w d (omega (arith, p, c.ways-test.false, c.ways.auto.u-index-end)))
