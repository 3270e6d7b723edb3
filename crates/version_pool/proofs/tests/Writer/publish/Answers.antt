use Rattle.std.proofs.Common.{◌∙◌}
use Rattle.version_pool.proofs.Versions.{vertices_of}
use Rattle.version_pool.proofs.tests.Writer.publish.Goals as goal

pub publish-requires-clause-ready : goal.publish-requires-clause-ready
publish-requires-clause-ready c = vertices_of c.self.inside.plan.now _ _ c.advance.ensures ∙ c.self.invariant.2
