use Rattle.std.specs.Prelude.{ℕ}
use Rattle.load_run.specs.Stars.{HasOut, HasBoth}
use Rattle.load_run.proofs.draws.draw_in.Given as goal

abbrev pub invariant-into : goal.invariant-into
invariant-into l =
    (s : ℕ) → HasOut l.fn.star.vertices l.fn.star.vertex s l.fn.star.vertices l.fn.star l.fn.draws
    → HasBoth l.fn.star.vertices l.fn.star.vertex s l.u l.star l.draws
