use Rattle.std.proofs.Common.{inl}
use Rattle.std.specs.Vec.{with_item}
use Rattle.pair_heaps.specs.Rows.{heaps_of}
use Rattle.pair_heaps.proofs.Places.{IsWritten, written, removed}
use Rattle.pair_heaps.proofs.Fits.{pair_of_place, fits_written}
use Rattle.pair_heaps.proofs.Tells.{told_of_removed}
use Rattle.pair_heaps.proofs.heaps.Heaps.remove_between.Goals as goal

pub is_first-was-requires : goal.is_first-was-requires
is_first-was-requires c =
    (pair_of_place c.self.inside.n c.self.inside.pairs.items _ _ _ _ _ _ c.self.view_is c.self.invariant c.requires.fits
    c.requires.from c.requires.to c.place-place.ensures.is c.index_mut-pair.ensures.value).held c.args.id
    c.requires.ends c.requires.held

pub take_out-requires-clause-held : goal.take_out-requires-clause-held
take_out-requires-clause-held c =
    (pair_of_place c.self.inside.n c.self.inside.pairs.items _ _ _ _ _ _ c.self.view_is c.self.invariant c.requires.fits
    c.requires.from c.requires.to c.place-place.ensures.is c.index_mut-pair.ensures.value).held c.args.id
    c.requires.ends c.requires.held

pub take_out-requires-clause-all_live : goal.take_out-requires-clause-all_live
take_out-requires-clause-all_live c =
    (pair_of_place c.self.inside.n c.self.inside.pairs.items _ _ _ _ _ _ c.self.view_is c.self.invariant c.requires.fits
    c.requires.from c.requires.to c.place-place.ensures.is c.index_mut-pair.ensures.value).live

pub take_out-requires-clause-heap : goal.take_out-requires-clause-heap
take_out-requires-clause-heap c =
    (pair_of_place c.self.inside.n c.self.inside.pairs.items _ _ _ _ _ _ c.self.view_is c.self.invariant c.requires.fits
    c.requires.from c.requires.to c.place-place.ensures.is c.index_mut-pair.ensures.value).arranged

is_written : (c : goal.After-self-1) → IsWritten c.args.self.now
    (heaps_of c.self.inside.n (with_item c.self.inside.pairs c.place-place.result c.take_out.new.self).items) c.args.x
    c.args.y c.index_mut-pair.result.now c.take_out.new.self
is_written c =
    written c.self.inside.n c.self.inside.pairs.items _ _ _ _ _ _ c.self.view_is c.self.invariant c.requires.from
    c.requires.to c.place-place.ensures.is c.index_mut-pair.ensures.value

pub invariant_of-self : goal.invariant_of-self
invariant_of-self c = (is_written c).sound

pub returns-clause-removed : goal.returns-clause-removed
returns-clause-removed c =
    removed _ _ c.args.id c.args.x c.args.y _ _ (is_written c) c.take_out.ensures.held c.take_out.ensures.spare

pub returns-clause-least : goal.returns-clause-least
returns-clause-least c =
    told_of_removed c.args.arena.now c.is_first-was.result _ _ c.args.id c.args.x c.args.y _ _ (is_written c)
    c.requires.fits c.is_first-was.ensures
    ((pair_of_place c.self.inside.n c.self.inside.pairs.items _ _ _ _ _ _ c.self.view_is c.self.invariant
    c.requires.fits c.requires.from c.requires.to c.place-place.ensures.is c.index_mut-pair.ensures.value).held
    c.args.id c.requires.ends c.requires.held) c.take_out.ensures.held

pub returns-clause-fits : goal.returns-clause-fits
returns-clause-fits c =
    fits_written _ _ c.args.arena.now c.args.id c.args.x c.args.y _ _ (is_written c) c.requires.fits
    (c.requires.fits.live _ _ c.args.id c.requires.held.2) c.requires.ends
    (λ r in_new. inl ((c.take_out.ensures.held.ids r).0 in_new).0)
    c.take_out.ensures.heap
