use Rattle.std.proofs.Common.{rules, [], arith}
use Rattle.apsp_service.proofs.Given.{memory_in_texts, answer_given, answer_stops}
use Rattle.apsp_service.proofs.session.give_answers.Goals as goal

pub returns-in_err-put_answer-clause-later : goal.returns-in_err-put_answer-clause-later
returns-in_err-put_answer-clause-later g c = c.loop-answer.invariant.1

pub returns-in_err-put_answer-clause-given : goal.returns-in_err-put_answer-clause-given
returns-in_err-put_answer-clause-given g c =
    memory_in_texts _ _ _ _ _ [] c.args.answers.now c.loop-answer.answer-index c.from_residual.ensures.1
    c.loop-answer.invariant.0

pub returns-in_err-give-clause-later : goal.returns-in_err-give-clause-later
returns-in_err-give-clause-later g c = omega (arith, c.loop-answer.invariant.1, c.give.ensures.later)

pub returns-clause-later : goal.returns-clause-later
returns-clause-later g c = c.loop-answer.invariant.1

pub returns-in_err-give-clause-given : goal.returns-in_err-give-clause-given
returns-in_err-give-clause-given g c =
    answer_stops _ _ _ _ _ _ _ _ [] c.args.answers.now c.loop-answer.answer-index c.answer-item.result _ _ _
    c.from_residual-in_err-give.ensures.1 (search rules) (search rules) c.loop-answer.invariant.0
    c.clear.ensures.bytes c.in_ok-put_answer.ensures c.as_str.ensures.value c.loop-answer.invariant.1
    c.in_err-give.ensures.given

pub loop-answer-preserved : goal.loop-answer-preserved
loop-answer-preserved g c = (
  answer_given _ _ _ [] c.args.answers.now c.loop-answer.answer-index c.answer-item.result _ _ _ (search rules)
      (search rules) c.loop-answer.invariant.0 c.clear.ensures.bytes c.in_ok-put_answer.ensures c.as_str.ensures.value
      c.in_ok-give.ensures.given,
  omega (arith, c.loop-answer.invariant.1, c.give.ensures.later),
)
