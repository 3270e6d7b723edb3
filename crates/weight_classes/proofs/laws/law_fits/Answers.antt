use Rattle.weight_classes.proofs.Held.{fits_agree}
use Rattle.weight_classes.proofs.laws.law_fits.Goals as goal

pub returns : goal.returns
returns c = fits_agree
