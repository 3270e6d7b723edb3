use Rattle.std.proofs.Common.{subst}
use Rattle.history_engine.specs.Seen.{EngineSeen}
use Rattle.block_run.specs.Run.{HasRun}
use Rattle.network_replies.proofs.network.Network.run_block.Goals as goal

pub returns : goal.returns
returns g c = λ x is.
    let F : EngineSeen → Type 0 =
    λ e. HasRun x e c.args.block.now.plan c.args.block.now.asks c.run_block.result c.run_block.new.engine in
    subst F c.self.view_is (c.run_block.ensures.ran x is)
