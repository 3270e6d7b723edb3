use Rattle.history_engine.proofs.Moments.{spent_outline}
use Rattle.history_engine.proofs.laws.law_spent.Goals as goal

pub returns : goal.returns
returns c before after commands = spent_outline before after commands
