use Rattle.std.proofs.Common.{rules}
use Rattle.pair_heaps.proofs.tests.take_at.Goals as goal

pub weight-requires : goal.weight-requires
weight-requires c = c.requires.fits.live 0 2 c.in_ok-id.field-0.now (search rules)
