use Rattle.std.proofs.Common.{sym, subst, Contains}
use Rattle.weight_classes.specs.declared.ids.Ids.{Ids}
use Rattle.weight_classes.specs.Ids.{ids_in}
use Rattle.weight_classes.proofs.choice.winners.Goals as goal

pub choose-requires-clause-live : goal.choose-requires-clause-live
choose-requires-clause-live c q h =
    c.requires.live q (subst (λ (ids : Ids). Contains (ids_in ids) q) (sym c.in-Several.is) h)
