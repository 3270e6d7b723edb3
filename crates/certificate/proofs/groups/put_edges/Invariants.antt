use Rattle.certificate.proofs.Adding.{EdgeWordsSoFar}
use Rattle.certificate.proofs.groups.put_edges.Given as goal

abbrev pub invariant-words : goal.invariant-words
invariant-words l = EdgeWordsSoFar l.fn.stated l.stated l.from l.most l.counter l.initial.rest l.rest l.items
