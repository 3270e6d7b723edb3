use Rattle.std.proofs.Common.{◌≡◌, ℕ, List, subst}
use Rattle.std.specs.Prelude.{Some, Result}
use Rattle.graph_store.specs.Plan.{Plan}
use Rattle.history_engine.specs.Seen.{EngineSeen}
use Rattle.block_run.specs.declared.asks.Ask.{Ask}
use Rattle.block_run.specs.declared.answers.Answer.{Answer}
use Rattle.block_run.specs.Run.{HasRun}
use Rattle.network_replies.proofs.blocks.LiveBlocksBlocks.run_block.Goals as goal

-- a run for a number of readers is one for an equal number
run_for : {E : Type 0} (n x : ℕ) (before after : EngineSeen) (p : Plan) (asks : List Ask) (r : Result (List Answer) E)
    → Some n ≡ Some x → HasRun n before p asks r after → HasRun x before p asks r after
run_for n x before after p asks r is run =
    let same : n ≡ x = cc in
    let F : ℕ → Type 0 = λ k. HasRun k before p asks r after in
    subst F same run

pub returns : goal.returns
returns g c = λ x is. run_for _ x _ _ _ _ _ is ((c.requires.ready _ _ _ c.requires.can).1 _ _ c.run.ensures)
