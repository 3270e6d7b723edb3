use Rattle.std.proofs.Common.{arith}
use Rattle.cert_check.proofs.Passing.{more_rows, first_failing}
use Rattle.cert_check.proofs.first_failure.Goals as goal

pub returns-in-Some : goal.returns-in-Some
returns-in-Some c =
    let row = c.in-Some.ensures in
    first_failing c.args.stated.now c.rows.x c.in-Some.y c.in-Some.reason c.rows.invariant
    (omega (arith, c.rows-test.true, c.requires)) row.0 row.1 row.2 row.3

pub rows-preserved : goal.rows-preserved
rows-preserved c = more_rows c.args.stated.now c.rows.x c.rows.invariant c.in_default.ensures
