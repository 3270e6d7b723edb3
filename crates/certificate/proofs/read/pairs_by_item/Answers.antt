use Rattle.std.proofs.Common.{arith}
use Rattle.std.proofs.lemmas.Result.{err_from_is_err_and}
use Rattle.certificate.specs.Answer.{rest_behind, pair_item}
use Rattle.certificate.proofs.Loops.{pairs_begin, pairs_step, pairs_fail, pairs_end, pair_still_fits}
use Rattle.certificate.proofs.read.pairs_by_item.Goals as goal

pub pairs-init : goal.pairs-init
pairs-init c = pairs_begin _ _ _ _ c.requires.none

pub pair_line-requires-clause-number : goal.pair_line-requires-clause-number
pair_line-requires-clause-number c =
    omega (arith, c.pairs.invariant.items.number, c.requires.number, c.pairs-test.true)

pub returns-in_err-pair-clause-pairs : goal.returns-in_err-pair-clause-pairs
returns-in_err-pair-clause-pairs c =
    let p = err_from_is_err_and c.from_residual.result c.from_residual.ensures.1 in
    rw (p.1, p.2) (pairs_fail c.args.stated.now c.pairs.stated c.vertices-n.result c.args.count c.pairs.counter
    c.pairs.before (rest_behind c.args.lines) (rest_behind c.pairs.rest)
    c.in_err-pair.field-0.0 c.vertices-n.ensures.vertices c.pairs.invariant
    c.pairs-test.true c.in_err-pair.ensures.line)

pub put_pair-requires-clause-fits : goal.put_pair-requires-clause-fits
put_pair-requires-clause-fits c =
    pair_still_fits c.args.stated.now c.pairs.stated c.vertices-n.result c.args.count c.pairs.counter
    c.pairs.before (rest_behind c.args.lines) (rest_behind c.pairs.rest) (pair_item c.in_ok-pair.pair)
    c.vertices-n.ensures.vertices c.pairs.invariant c.in_ok-pair.ensures.fits

pub pairs-preserved : goal.pairs-preserved
pairs-preserved c =
    pairs_step c.args.stated.now c.pairs.stated c.put_pair.new.self c.vertices-n.result c.args.count
    c.pairs.counter c.pairs.before (rest_behind c.args.lines) (rest_behind c.pairs.rest)
    (rest_behind c.in_ok-pair.behind) (pair_item c.in_ok-pair.pair) c.pairs.invariant c.pairs-test.true
    c.in_ok-pair.ensures.line c.in_ok-pair.ensures.number c.put_pair.ensures

pub returns-clause-pairs : goal.returns-clause-pairs
returns-clause-pairs c =
    pairs_end c.args.stated.now c.pairs.stated c.vertices-n.result c.args.count c.pairs.counter c.pairs.before
    (rest_behind c.args.lines) (rest_behind c.pairs.rest) c.vertices-n.ensures.vertices
    c.pairs.invariant c.pairs-test.false

pub returns-clause-number : goal.returns-clause-number
returns-clause-number c = omega (arith, c.pairs.invariant.items.number, c.pairs.auto.counter-end)
