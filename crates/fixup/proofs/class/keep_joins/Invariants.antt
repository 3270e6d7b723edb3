use Rattle.std.proofs.Common.{[], take}
use Rattle.fixup.specs.Stage.{Stage}
use Rattle.fixup.specs.Growth.{PairsAreJoined}
use Rattle.fixup.specs.Stages.{AreOwedAt}
use Rattle.fixup.proofs.class.keep_joins.Given as goal

abbrev pub invariant-joins : goal.invariant-joins
invariant-joins l =
    (s : Stage) → PairsAreJoined s l.birth [] l.initial.book l.initial.classes → AreOwedAt s l.joins
    → PairsAreJoined s l.birth (take l.pair-index l.joins) l.book l.classes
