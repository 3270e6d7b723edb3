use Rattle.certificate.specs.Answer.{rest_behind}
use Rattle.certificate.proofs.Adding.{PairGroupsSoFar}
use Rattle.certificate.proofs.read.pairs_by_vertex.Given as goal

abbrev pub invariant-lines : goal.invariant-lines
invariant-lines l =
    PairGroupsSoFar l.fn.stated l.stated l.count l.counter l.left l.before (rest_behind l.initial.rest) (rest_behind l.rest)
