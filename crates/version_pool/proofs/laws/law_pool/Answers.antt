use Rattle.version_pool.proofs.Sound.{law_sound, law_rises}
use Rattle.version_pool.proofs.Granting.{law_granted}
use Rattle.version_pool.proofs.laws.law_pool.Goals as goal

pub returns : goal.returns
returns c = record { sound = law_sound; rises = law_rises; granted = law_granted }
