use Rattle.std.proofs.Common.{sym, ◌∙◌}
use Rattle.script_reader.specs.Scan.{words_left}
use Rattle.script_reader.proofs.Loops.{misfit_none, misfit_more}
use Rattle.script_reader.proofs.groups.first_misfit.Goals as goal

pub loop-word-init : goal.loop-word-init
loop-word-init c =
    rw c.into_iter-word-iterator.ensures.into_iter_gives (misfit_none c.args.words.place (words_left c.args.words))

pub loop-word-preserved : goal.loop-word-preserved
loop-word-preserved c =
    let steps = c.in-Some.ensures.steps in
    rw (c.is_out-has_out.ensures, c.is_in-has_in.ensures)
    (misfit_more _ _ c.loop-word.word-iterator.place (words_left c.loop-word.word-iterator) _ _ _ steps.0 steps.2
    (sym c.is_misfit.ensures ∙ c.if-is_misfit.false) ∙ c.loop-word.invariant)
