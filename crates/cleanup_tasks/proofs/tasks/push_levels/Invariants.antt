use Rattle.std.proofs.Common.{◌≡◌, ◌++◌, take}
use Rattle.cleanup_tasks.specs.Under.{across}
use Rattle.cleanup_tasks.proofs.tasks.push_levels.Given as goal

abbrev pub invariant-walks : goal.invariant-walks
invariant-walks l = l.ids.items ≡ l.initial.ids.items ++ across l.at (take l.levels-index l.walked)
