use Rattle.std.proofs.Common.{◌≤◌, length}
use Rattle.smallvec.specs.SmallVec.{small_vec_len}
use Rattle.weight_classes.specs.Choice.{IsChosen}
use Rattle.weight_classes.proofs.Winning.{SeenIn}
use Rattle.weight_classes.proofs.choice.choose.Given as goal

abbrev pub invariant-choosing : goal.invariant-choosing
invariant-choosing l =
    IsChosen l.arena (SeenIn l.keys l.key-index) l.fn.won.items l.won.items l.ids.items l.last
    × (small_vec_len l.ids ≤ l.key-index) × (length l.keys ≤ l.ids.capacity)
