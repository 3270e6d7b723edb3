use Rattle.certificate.proofs.Adding.{PairWordsSoFar}
use Rattle.certificate.proofs.groups.put_pairs.Given as goal

abbrev pub invariant-words : goal.invariant-words
invariant-words l = PairWordsSoFar l.fn.stated l.stated l.from l.most l.counter l.initial.rest l.rest l.items
