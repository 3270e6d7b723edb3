use Rattle.std.proofs.Common.{sym, ◌∙◌}
use Rattle.std.proofs.lemmas.List.{get_or_default}
use Rattle.pair_heaps.proofs.Fronts.{found_inside, same_from_test}
use Rattle.pair_heaps.proofs.entries.place_in.Goals as goal

pub returns-clause-inside : goal.returns-clause-inside
returns-clause-inside c = found_inside c.args.ids.now c.args.id c.others.place c.others.invariant

pub returns-clause-at : goal.returns-clause-at
returns-clause-at c =
    get_or_default c.args.ids.now c.others.place 0 c.index-ids-place.result
    (found_inside c.args.ids.now c.args.id c.others.place c.others.invariant)
    ∙ sym c.index-ids-place.is ∙ same_from_test c.index-ids-place.result c.args.id
    (sym c.ne.ensures ∙ c.others-test.false)
