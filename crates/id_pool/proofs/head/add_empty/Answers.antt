use Rattle.std.proofs.Common.{arith, refl, [], ◌∷◌}
use Rattle.id_pool.proofs.head.add_empty.Goals as goal

pub returns-in-Ok-clause-ok : goal.returns-in-Ok-clause-ok
returns-in-Ok-clause-ok c = record {
  head = record { len = 0; mark = 0; few = c.args.filler ∷ c.args.filler ∷ c.args.filler ∷ [] };
  is = c.in-Ok.ensures.items;
  ids = λ ids. refl;
  mark = refl;
  at = λ ids o k. (omega arith, omega arith, refl);
}
