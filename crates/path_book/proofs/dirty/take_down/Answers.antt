use Rattle.std.proofs.Common.{◌≡◌, ◌<◌, ◌+◌, ◌*◌, ◌∷◌, ◌++◌, [], length, sym, subst, rules, arith}
use Rattle.pair_heaps.proofs.Places.{place_inside, place_small}
use Rattle.path_book.specs.Dirty.{IsListed}
use Rattle.path_book.proofs.Noted.{listed_last, listed_less_at}
use Rattle.path_book.proofs.dirty.take_down.Goals as goal

pub bounds-flags-x : goal.bounds-flags-x
bounds-flags-x c = listed_last c.args.n c.pairs.flags c.pairs.pairs.items c.pop.new.self.items c.in-Some.x c.in-Some.y c.pairs.invariant (search rules)

pub pairs-preserved : goal.pairs-preserved
pairs-preserved c = listed_less_at c.args.n c.pairs.flags c.pairs.pairs.items c.pop.new.self.items c.in-Some.x c.in-Some.y c.pairs.invariant (search rules)
