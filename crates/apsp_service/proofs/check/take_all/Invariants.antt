use Rattle.std.proofs.Common.{◌-◌, ◌≤◌, length}
use Rattle.std.specs.Io.KnownBytes.{Consumes}
use Rattle.apsp_service.specs.declared.run.TheConstants.{MOST_INPUT}
use Rattle.apsp_service.proofs.check.take_all.Given as goal

abbrev pub invariant-loop-bytes : goal.invariant-loop-bytes
invariant-loop-bytes g l =
    Consumes (g.S.Source.left l.initial.source) (g.S.Source.left l.source) l.bytes.items
    × (length l.bytes.items ≤ MOST_INPUT)
    × (g.S.Source.faults l.initial.source ≤ g.S.Source.faults l.source)

abbrev pub decreases-loop-bytes : goal.decreases-loop-bytes
decreases-loop-bytes g l = MOST_INPUT - length l.bytes.items
