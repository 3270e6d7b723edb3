use Rattle.std.proofs.Common.{rules, ◌+◌, ◌∙◌, ap, arith}
use Rattle.apsp_service.proofs.Given.{ok_replied}
use Rattle.apsp_service.proofs.Standing.{ready_of, line_stands}
use Rattle.apsp_service.proofs.session.Session.answer.Goals as goal

pub execute-requires-clause-ready : goal.execute-requires-clause-ready
execute-requires-clause-ready g c κs within =
    let s = c.requires.stands in ready_of _ s.0 s.1.inside.network (omega (arith, s.1.lines, c.requires.few))

pub returns-in_ok-execute-in-Ok : goal.returns-in_ok-execute-in-Ok
returns-in_ok-execute-in-Ok g c = record {
  stands = λ s content st has.
      line_stands s content _ _ (c.in-Ok.ensures.reading s content st has)
      (c.in_ok-execute-in-Ok.ensures.stands s st.inside st.terms)
      (c.execute.ensures.terms ∙ st.terms)
      (c.execute.ensures.lines ∙ ap (λ n. n + 1) st.lines) (c.execute.ensures.refused ∙ st.refused);
  reply = λ s content st has.
      ok_replied s content _ _ _ (c.in-Ok.ensures.reading s content st has) c.clear.ensures.bytes (search rules)
      (c.in_ok-execute-in-Ok.ensures.reply s st.inside);
  certificate = λ e. cc;
  cutter = search rules;
  terms = search rules;
  lines = search rules;
}
