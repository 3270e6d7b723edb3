use Rattle.std.proofs.Common.{◌-◌, length}
use Rattle.block_run.proofs.Answering.{IsReading}
use Rattle.block_run.proofs.read.answer_all.Given as goal

abbrev pub invariant-loop-at : goal.invariant-loop-at
invariant-loop-at g l = IsReading l.pool l.asks l.step l.fn.reader l.reader l.at l.answers.items

abbrev pub decreases-loop-at : goal.decreases-loop-at
decreases-loop-at g l = length l.asks - l.at
