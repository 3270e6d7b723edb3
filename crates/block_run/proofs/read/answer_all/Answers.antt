use Rattle.std.proofs.Common.{arith, sym, subst}
use Rattle.std.proofs.lemmas.List.{get_or_default}
use Rattle.block_run.proofs.Answering.{IsReading, reading_starts, reading_goes_on, reading_ends}
use Rattle.block_run.proofs.read.answer_all.Goals as goal

pub loop-at-init : goal.loop-at-init
loop-at-init g c =
    subst (λ xs. IsReading c.args.pool.now c.args.asks.now c.args.step c.args.reader c.args.reader c.args.reader.who xs)
    (sym c.new-answers.ensures.items) (reading_starts c.args.pool.now c.args.asks.now c.args.step c.args.reader
    c.requires.reader)

pub loop-at-preserved : goal.loop-at-preserved
loop-at-preserved g c =
    reading_goes_on c.args.pool.now c.args.asks.now c.args.lo c.args.step c.args.reader c.loop-at.reader
    c.answer.new.reader c.loop-at.at c.loop-at.answers.items c.push.new.self.items _ c.in_ok-found.found
    c.requires.asks c.loop-at.invariant c.loop-at-test.true
    (λ d. get_or_default c.args.asks.now c.loop-at.at d _ c.loop-at-test.true) c.in_ok-found.ensures.reader
    c.in_ok-found.ensures.answer c.in-Ok.ensures.items

pub returns : goal.returns
returns g c =
    reading_ends c.args.pool.now c.args.asks.now c.args.step c.args.reader c.loop-at.reader c.loop-at.at
    c.loop-at.answers.items c.loop-at.invariant (omega (arith, c.loop-at-test.false))
