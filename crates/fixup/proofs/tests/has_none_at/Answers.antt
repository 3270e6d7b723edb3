use Rattle.std.proofs.Common.{sym, ◌∙◌, arith}
use Rattle.fixup.proofs.Untouched.{none_yet, none_more, none_there}
use Rattle.fixup.proofs.tests.has_none_at.Goals as goal

pub others-init : goal.others-init
others-init c = none_yet c.args.graph.now c.args.v

pub others-preserved : goal.others-preserved
others-preserved c =
    none_more c.args.graph.now c.args.v c.others.u c.weight.result c.weight-else-is_some.result
    c.weight.ensures.weight (sym c.is_some.ensures ∙ c.if-is_some.false)
    c.weight-else-is_some.ensures.weight (sym c.is_some-else-is_some.ensures ∙ c.if-is_some-2.false)
    c.others.invariant

pub returns : goal.returns
returns c =
    record {
      none = λ _. none_there c.args.graph.now c.args.v c.vertices-u-end.ensures.graph
          (λ u l. c.others.invariant u (omega (arith, l, c.others-test.false, c.vertices-u-end.ensures.vertices)));
    }
