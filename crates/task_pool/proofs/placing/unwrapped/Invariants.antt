use Rattle.std.proofs.Common.{◌≡◌, ◌++◌, All, IsSome, Some, map}
use Rattle.task_pool.proofs.placing.unwrapped.Given as goal

abbrev pub invariant-loop-place : goal.invariant-loop-place
invariant-loop-place g l =
    (map Some l.answers.items ++ l.place-iterator.rest.items ≡ l.fn.places.items)
    × All IsSome l.place-iterator.rest.items
