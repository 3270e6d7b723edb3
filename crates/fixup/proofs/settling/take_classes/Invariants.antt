use Rattle.fixup.specs.Growth.{InvariantHolds}
use Rattle.fixup.specs.Stage.{Start}
use Rattle.fixup.proofs.Lightest.{left_over}
use Rattle.fixup.proofs.settling.take_classes.Given as goal

abbrev pub invariant-classes : goal.invariant-classes
invariant-classes g l =
    (s : Start) → InvariantHolds s.graph l.birth s.opening l.initial.book l.initial.classes
    → InvariantHolds s.graph l.birth s.opening l.book l.classes

abbrev pub decreases-classes : goal.decreases-classes
decreases-classes g l = left_over l.classes.held
