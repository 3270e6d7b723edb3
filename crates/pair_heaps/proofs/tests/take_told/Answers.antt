use Rattle.std.proofs.Common.{rules}
use Rattle.pair_heaps.proofs.tests.take_told.Goals as goal

pub remove_between-told-requires-clause-ends : goal.remove_between-told-requires-clause-ends
remove_between-told-requires-clause-ends c = c.requires.fits.ends 0 2 c.in_ok-id.field-0.now (search rules)

pub weight-requires : goal.weight-requires
weight-requires c = c.requires.fits.live 0 2 c.in_ok-id.field-0.now (search rules)
