use Rattle.std.proofs.Common.{◌≡◌, rules}
use Rattle.apsp_service.specs.Session.{present_graph}
use Rattle.apsp_service.specs.Giving.{vertices_in}
use Rattle.apsp_service.proofs.Standing.{vertices_are}
use Rattle.apsp_service.proofs.session.Session.context.Goals as goal

pub returns-clause-context : goal.returns-clause-context
returns-clause-context c = λ s h.
    let told : vertices_in c.args.self.now.network ≡ (present_graph s).vertices =
    vertices_are c.args.self.now.network c.args.self.now.block s h.inside in
    search rules
