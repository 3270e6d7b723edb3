use Rattle.std.proofs.Common.{refl, arith}
use Rattle.block_run.proofs.Found.{found_by}
use Rattle.block_run.proofs.read.answer_from.Goals as goal

pub returns : goal.returns
returns c = record {
  number = c.number-number.ensures;
  not_older = omega (arith, c.if-number-least.false);
  x = refl;
  y = refl;
  found = found_by c.args.version.now.graph c.args.ask.now.x c.args.ask.now.y _ c.in_ok-walk.walk
      (c.dist_row.ensures.cells c.args.ask.now.y c.requires.to) c.in_ok-walk.ensures;
}
