use Rattle.std.proofs.Common.{inr, refl}
use Rattle.std.specs.Vec.{with_item}
use Rattle.pair_heaps.specs.Rows.{heaps_of}
use Rattle.pair_heaps.proofs.Places.{IsWritten, written, inserted}
use Rattle.pair_heaps.proofs.Fits.{pair_of_place, fits_written}
use Rattle.pair_heaps.proofs.Tells.{told_of_inserted}
use Rattle.pair_heaps.proofs.heaps.Heaps.insert_into.Goals as goal

pub put-requires-clause-all_live : goal.put-requires-clause-all_live
put-requires-clause-all_live c =
    (pair_of_place c.self.inside.n c.self.inside.pairs.items _ _ _ _ _ _ c.self.view_is c.self.invariant c.requires.fits
    c.requires.room.from c.requires.room.to c.requires.room.place c.index_mut-pair.ensures.value).live

pub put-requires-clause-heap : goal.put-requires-clause-heap
put-requires-clause-heap c =
    (pair_of_place c.self.inside.n c.self.inside.pairs.items _ _ _ _ _ _ c.self.view_is c.self.invariant c.requires.fits
    c.requires.room.from c.requires.room.to c.requires.room.place c.index_mut-pair.ensures.value).arranged

pub put-requires-clause-fresh : goal.put-requires-clause-fresh
put-requires-clause-fresh c =
    (pair_of_place c.self.inside.n c.self.inside.pairs.items _ _ _ _ _ _ c.self.view_is c.self.invariant c.requires.fits
    c.requires.room.from c.requires.room.to c.requires.room.place c.index_mut-pair.ensures.value).fresh c.args.id
    c.requires.fresh

pub is_first-requires : goal.is_first-requires
is_first-requires c = (c.put.ensures.held.ids c.args.id).1 (inr refl)

is_written : (c : goal.After-self-1) → IsWritten c.args.self.now
    (heaps_of c.self.inside.n (with_item c.self.inside.pairs c.args.room.place c.put.new.self).items) c.args.room.x
    c.args.room.y c.index_mut-pair.result.now c.put.new.self
is_written c =
    written c.self.inside.n c.self.inside.pairs.items _ _ _ _ _ _ c.self.view_is c.self.invariant c.requires.room.from
    c.requires.room.to c.requires.room.place c.index_mut-pair.ensures.value

pub returns-clause-ok : goal.returns-clause-ok
returns-clause-ok c =
    inserted _ _ c.args.id c.args.room.x c.args.room.y _ _ (is_written c) c.put.ensures.held c.put.ensures.spare

pub returns-clause-least : goal.returns-clause-least
returns-clause-least c =
    told_of_inserted c.args.arena.now c.is_first.result _ _ c.args.id c.args.room.x c.args.room.y _ _ (is_written c)
    c.put.ensures.heap c.is_first.ensures
    ((pair_of_place c.self.inside.n c.self.inside.pairs.items _ _ _ _ _ _ c.self.view_is c.self.invariant
    c.requires.fits c.requires.room.from c.requires.room.to c.requires.room.place
    c.index_mut-pair.ensures.value).fresh c.args.id c.requires.fresh) c.put.ensures.held

pub returns-clause-fits : goal.returns-clause-fits
returns-clause-fits c =
    fits_written _ _ c.args.arena.now c.args.id c.args.room.x c.args.room.y _ _ (is_written c) c.requires.fits
    c.requires.live c.requires.ends (λ q in_new. (c.put.ensures.held.ids q).0 in_new) c.put.ensures.heap
