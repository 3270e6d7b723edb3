use Rattle.fixup.proofs.Untouched.{opening_ready}
use Rattle.fixup.proofs.tests.opening.Goals as goal

pub returns-clause-ready : goal.returns-clause-ready
returns-clause-ready c =
    opening_ready c.in_ok-book.book c.args.n c.in_ok-graph.graph c.in_ok-graph.ensures.ok c.in_ok-book.ensures.lawful
    c.in_ok-book.ensures.opening
