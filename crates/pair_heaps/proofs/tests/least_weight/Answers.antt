use Rattle.pair_heaps.proofs.tests.least_weight.Goals as goal

pub weight-requires : goal.weight-requires
weight-requires c = c.requires.fits.live 0 2 c.in_ok-id.id c.in_ok-id.ensures.least.held
