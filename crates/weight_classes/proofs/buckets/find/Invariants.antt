use Rattle.std.proofs.Common.{length}
use Rattle.weight_classes.specs.Inside.{ranks_in}
use Rattle.weight_classes.proofs.Chains.{IsOnChain, ahead}
use Rattle.weight_classes.proofs.buckets.find.Given as goal

abbrev pub invariant-chain : goal.invariant-chain
invariant-chain l = IsOnChain (length l.heads) (ranks_in l.buckets) (record { weight = l.weight; hops = l.hops }) l.at

abbrev pub decreases-chain : goal.decreases-chain
decreases-chain l = ahead l.at
