use Rattle.std.proofs.Common.{sym}
use Rattle.pair_heaps.proofs.Places.{written, reserved, held_stays}
use Rattle.pair_heaps.proofs.Fits.{fits_same}
use Rattle.pair_heaps.proofs.heaps.Heaps.reserve_room.Goals as goal

pub returns-clause-ok : goal.returns-clause-ok
returns-clause-ok c =
    let w = written c.self.inside.n c.self.inside.pairs.items c.args.self.now c.args.x c.args.y c.place-place.result
    c.index_mut-pair.result.now c.reserve.new.self c.self.view_is c.self.invariant c.requires.from c.requires.to
    c.place-place.ensures.is c.index_mut-pair.ensures.value in
    reserved _ _ c.args.x c.args.y _ _ w c.reserve.ensures.held c.in_ok-reserve.ensures.ok

pub returns-clause-fits : goal.returns-clause-fits
returns-clause-fits c =
    let w = written c.self.inside.n c.self.inside.pairs.items c.args.self.now c.args.x c.args.y c.place-place.result
    c.index_mut-pair.result.now c.reserve.new.self c.self.view_is c.self.invariant c.requires.from c.requires.to
    c.place-place.ensures.is c.index_mut-pair.ensures.value in
    λ a. (
      fits_same _ _ a w.only.vertices (held_stays _ _ c.args.x c.args.y _ _ w c.reserve.ensures.held),
      fits_same _ _ a (sym w.only.vertices)
          (λ x y. sym (held_stays _ _ c.args.x c.args.y _ _ w c.reserve.ensures.held x y)),
    )
