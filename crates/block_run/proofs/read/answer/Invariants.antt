use Rattle.block_run.specs.Reading.{ReadsOn}
use Rattle.block_run.proofs.read.answer.Given as goal

abbrev pub invariant-loop : goal.invariant-loop
invariant-loop g l = ReadsOn l.pool l.initial.reader l.reader
