use Rattle.pair_heaps.proofs.Fits.{ends_in_rows}
use Rattle.pair_heaps.proofs.heaps.Heaps.insert.Goals as goal

pub reserve_room-requires-clause-from : goal.reserve_room-requires-clause-from
reserve_room-requires-clause-from c =
    (ends_in_rows c.args.self.now c.args.arena.now c.args.id c.first-x.result c.last-y.result c.requires.fits
    c.first-x.ensures.lawful c.requires.live (c.first-x.ensures.value, c.last-y.ensures.value)).0

pub reserve_room-requires-clause-to : goal.reserve_room-requires-clause-to
reserve_room-requires-clause-to c =
    (ends_in_rows c.args.self.now c.args.arena.now c.args.id c.first-x.result c.last-y.result c.requires.fits
    c.first-x.ensures.lawful c.requires.live (c.first-x.ensures.value, c.last-y.ensures.value)).1

pub insert_into-requires-clause-fits : goal.insert_into-requires-clause-fits
insert_into-requires-clause-fits c = (c.reserve_room.ensures.fits c.args.arena.now).0 c.requires.fits
