use Rattle.std.proofs.Common.{arith}
use Rattle.graph_store.proofs.StarRows.{star_of-no_cells, empty_star}
use Rattle.graph_store.proofs.star.Star.new.Goals as goal

pub invariant_of-result : goal.invariant_of-result
invariant_of-result c =
    rw (c.in_ok-out.ensures, c.in_ok-into.ensures) (empty_star c.args.n c.args.v c.requires (omega arith))

pub returns-clause-ok : goal.returns-clause-ok
returns-clause-ok c =
    rw (c.in_ok-out.ensures, c.in_ok-into.ensures) (star_of-no_cells c.args.n c.args.v c.args.n c.args.n)

pub returns-clause-star : goal.returns-clause-star
returns-clause-star c =
    rw (c.in_ok-out.ensures, c.in_ok-into.ensures) (empty_star c.args.n c.args.v c.requires (omega arith)).star
