use Rattle.std.proofs.Common.{take}
use Rattle.fixup.specs.Growth.{ExactlyTheseAreHeld}
use Rattle.fixup.proofs.starts.hold_all.Given as goal

abbrev pub invariant-heads : goal.invariant-heads
invariant-heads l = ExactlyTheseAreHeld l.arena (take l.id-index l.heads) l.classes
