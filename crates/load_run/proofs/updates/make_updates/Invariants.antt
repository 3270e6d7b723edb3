use Rattle.load_run.proofs.Making.{HasMade}
use Rattle.load_run.proofs.updates.make_updates.Given as goal

abbrev pub invariant-updates : goal.invariant-updates
invariant-updates g l = HasMade l.fn.engine.opening l.seed l.counter l.engine l.draws
