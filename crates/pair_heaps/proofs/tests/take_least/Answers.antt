use Rattle.pair_heaps.proofs.tests.take_least.Goals as goal

pub remove-requires-clause-held : goal.remove-requires-clause-held
remove-requires-clause-held c = (0, 2, c.in_ok-id.ensures.least.held)

pub weight-requires : goal.weight-requires
weight-requires c = c.requires.fits.live 0 2 c.in_ok-id.id c.in_ok-id.ensures.least.held
