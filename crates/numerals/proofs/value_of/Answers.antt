use Rattle.std.proofs.Common.{arith}
use Rattle.numerals.proofs.Digits.{next_digit}
use Rattle.numerals.proofs.value_of.Goals as goal

pub overflow_mul-value : goal.overflow_mul-value
overflow_mul-value c = omega (arith, (next_digit _ _ _ c.requires c.loop-b-test.true c.loop-b.invariant).small)

pub overflow_sub-b : goal.overflow_sub-b
overflow_sub-b c = (next_digit _ _ _ c.requires c.loop-b-test.true c.loop-b.invariant).digit.low

pub overflow_add-value : goal.overflow_add-value
overflow_add-value c =
    rw c.from.ensures (omega (arith, (next_digit _ _ _ c.requires c.loop-b-test.true c.loop-b.invariant).small))

pub loop-b-preserved : goal.loop-b-preserved
loop-b-preserved c = rw c.from.ensures ((next_digit _ _ _ c.requires c.loop-b-test.true c.loop-b.invariant).next)
