use Rattle.std.proofs.Common.{vec_len}
use Rattle.path_book.specs.Dirty.{IsListed}
use Rattle.path_book.proofs.dirty.take_down.Given as goal

abbrev pub invariant-pairs : goal.invariant-pairs
invariant-pairs l = IsListed l.n l.flags l.pairs.items

abbrev pub decreases-pairs : goal.decreases-pairs
decreases-pairs l = vec_len l.pairs
