use Rattle.block_run.proofs.Fronts.{front_stands}
use Rattle.block_run.proofs.laws.law_cut_off.Goals as goal

pub returns : goal.returns
returns c before after stars commands = front_stands before after stars commands
