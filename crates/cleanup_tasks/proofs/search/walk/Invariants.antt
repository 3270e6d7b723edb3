use Rattle.std.proofs.Common.{◌+◌, ◌-◌, length}
use Rattle.std.specs.FinMap as fin
use Rattle.cleanup_tasks.proofs.Levels.{HasWalked}
use Rattle.cleanup_tasks.proofs.search.walk.Given as goal

abbrev pub invariant-levels : goal.invariant-levels
invariant-levels g l = HasWalked l.book l.v l.level.starting.items l.level.passing.items l.ids.items

abbrev pub decreases-levels : goal.decreases-levels
decreases-levels g l =
    length (fin.entries l.book.arena.paths) + (length l.level.starting.items + length l.level.passing.items) - length
    l.ids.items
