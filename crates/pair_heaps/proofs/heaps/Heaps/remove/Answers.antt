use Rattle.pair_heaps.specs.Heaps.{IsRemoved}
use Rattle.pair_heaps.proofs.Places.{at_ends}
use Rattle.pair_heaps.proofs.Fits.{ends_in_rows}
use Rattle.pair_heaps.proofs.heaps.Heaps.remove.Goals as goal

pub first-x-requires : goal.first-x-requires
first-x-requires c = c.requires.fits.live _ _ c.args.id c.requires.held.2

pub remove_between-requires-clause-from : goal.remove_between-requires-clause-from
remove_between-requires-clause-from c =
    (ends_in_rows c.args.self.now c.args.arena.now c.args.id c.first-x.result c.last-y.result c.requires.fits
    c.first-x.ensures.lawful (c.requires.fits.live _ _ c.args.id c.requires.held.2)
    (c.first-x.ensures.value, c.last-y.ensures.value)).0

pub remove_between-requires-clause-to : goal.remove_between-requires-clause-to
remove_between-requires-clause-to c =
    (ends_in_rows c.args.self.now c.args.arena.now c.args.id c.first-x.result c.last-y.result c.requires.fits
    c.first-x.ensures.lawful (c.requires.fits.live _ _ c.args.id c.requires.held.2)
    (c.first-x.ensures.value, c.last-y.ensures.value)).1

pub returns-clause-removed : goal.returns-clause-removed
returns-clause-removed c =
    at_ends c.args.arena.now c.args.id c.first-x.result c.last-y.result
    (λ x y. IsRemoved c.args.self.now c.remove_between.new.self c.args.id x y)
    (c.first-x.ensures.value, c.last-y.ensures.value) c.remove_between.ensures.removed
