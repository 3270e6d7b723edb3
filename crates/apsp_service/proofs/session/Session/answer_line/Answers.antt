use Rattle.std.proofs.Common.{subst}
use Rattle.std.specs.Prelude.{string_bytes}
use Rattle.apsp_service.specs.declared.session.Reply.{Reply}
use Rattle.apsp_service.specs.Giving.{IsRepliedBy}
use Rattle.apsp_service.proofs.Given.{text_gives, lines_give, certificate_gives, memory_ends}
use Rattle.apsp_service.proofs.session.Session.answer_line.Goals as goal

pub returns-in_err-answer-clause-gives : goal.returns-in_err-answer-clause-gives
returns-in_err-answer-clause-gives g c =
    λ s content stands has. memory_ends _ _ _ _ s _ stands.inside.lawful c.from_residual.ensures.1

pub returns-in-Text-clause-gives : goal.returns-in-Text-clause-gives
returns-in-Text-clause-gives g c = λ s content stands has.
    let F : Reply → Type 0 = λ r. IsRepliedBy r s content (string_bytes c.answer.new.self.text) in
    text_gives _ _ _ _ _ s content (string_bytes c.answer.new.self.text) stands.inside.lawful
    (subst F c.in-Text.is (c.in_ok-answer.ensures.reply s content stands has))
    (rw (← c.as_str.ensures.value) c.give.ensures.given)

pub returns-in-Certificate-clause-gives : goal.returns-in-Certificate-clause-gives
returns-in-Certificate-clause-gives g c = λ s content stands has.
    let F : Reply → Type 0 = λ r. IsRepliedBy r s content (string_bytes c.answer.new.self.text) in
    certificate_gives _ _ _ _ _ s content
    (subst F c.in-Certificate.is (c.in_ok-answer.ensures.reply s content stands has))
    (c.give_certificate.ensures.gives _ (c.in_ok-answer.ensures.stands s content stands has))

pub returns-in-Answers-clause-gives : goal.returns-in-Answers-clause-gives
returns-in-Answers-clause-gives g c = λ s content stands has.
    let F : Reply → Type 0 = λ r. IsRepliedBy r s content (string_bytes c.answer.new.self.text) in
    lines_give _ _ _ _ _ s content _ (subst F c.in-Answers.is (c.in_ok-answer.ensures.reply s content stands has))
    (rw (← c.answers.ensures) c.give_answers.ensures.given)
