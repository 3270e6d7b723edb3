use Rattle.pair_heaps.proofs.Fits.{fits_agree}
use Rattle.pair_heaps.proofs.laws.law_fits.Goals as goal

pub returns : goal.returns
returns c = fits_agree
