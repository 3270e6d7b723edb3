use Rattle.path_reports.proofs.Passed.{passing_iff}
use Rattle.path_reports.proofs.passes.passes.Goals as goal

pub returns : goal.returns
returns c =
    passing_iff c.args.version.now.graph c.args.v c.args.x c.args.y c.walk.result c.holds.result c.if-x-y.false
    c.if-x-v.false c.if-y-v.false c.walk.ensures c.holds.ensures
