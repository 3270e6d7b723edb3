use Rattle.std.proofs.Common.{ap}
use Rattle.pair_heaps.specs.Heaps.{Pair}
use Rattle.pair_heaps.proofs.Places.{written}
use Rattle.pair_heaps.proofs.Sifted.{least_first}
use Rattle.pair_heaps.proofs.heaps.Heaps.least.Goals as goal

pub returns-clause-least : goal.returns-clause-least
returns-clause-least c =
    let v = c.index-pair.result.now in
    let w = written c.self.inside.n c.self.inside.pairs.items c.args.self.now c.args.x c.args.y c.place.result v v
    c.self.view_is c.self.invariant c.requires.from c.requires.to c.place.ensures.is c.index-pair.ensures in
    least_first c.args.self.now c.args.x c.args.y v.held c.first.result (ap (λ (p : Pair). p.held) w.was)
    c.first.ensures
