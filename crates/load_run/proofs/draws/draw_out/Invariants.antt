use Rattle.load_run.specs.Stars.{HasOut}
use Rattle.load_run.proofs.draws.draw_out.Given as goal

abbrev pub invariant-out : goal.invariant-out
invariant-out l = HasOut l.fn.star.vertices l.fn.star.vertex l.fn.draws l.u l.star l.draws
