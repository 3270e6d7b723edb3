use Rattle.std.proofs.Common.{◌≡◌, ◌++◌, Ok, map}
use Rattle.block_run.proofs.order.unwrapped.Given as goal

abbrev pub invariant-loop-list : goal.invariant-loop-list
invariant-loop-list l = map Ok l.all.items ++ l.list-iterator.rest.items ≡ l.fn.lists.items
