use Rattle.std.proofs.Common.{◌-◌, ◌/◌, ◌<◌, sym, subst, ap, arith, List, ℕ, length}
use Rattle.std.proofs.lemmas.List.Edits.{length-swap}
use Rattle.std.proofs.lemmas.List.Sorted.{IsPermutation-trans}
use Rattle.pair_heaps.specs.Sifting.{IsRising}
use Rattle.pair_heaps.proofs.Sifted.{risen, risen_done, risen_top, parent_child, later, still_live}
use Rattle.pair_heaps.proofs.sift.rise.Goals as goal

pub is_below-requires-clause-live : goal.is_below-requires-clause-live
is_below-requires-clause-live c =
    still_live c.args.arena.now c.args.ids.now c.rising.ids c.rising.invariant.moved c.requires.live

pub returns-then-not-is_below-clause-heap : goal.returns-then-not-is_below-clause-heap
returns-then-not-is_below-clause-heap c =
    risen_done c.args.arena.now c.rising.ids ((c.rising.hole - 1) / 2) c.rising.hole
    (parent_child c.rising.hole c.rising-test.true)
    (c.is_below.ensures.no c.if-not-is_below.true) c.rising.invariant.rising

pub rising-preserved : goal.rising-preserved
rising-preserved c =
    let a = c.args.arena.now in
    let xs = c.rising.ids in
    let up = (c.rising.hole - 1) / 2 in
    let child = parent_child c.rising.hole c.rising-test.true in
    let up_in : up < length xs = omega (arith, later c.rising.hole up child, c.rising.invariant.place) in
    record {
      moved = IsPermutation-trans c.args.ids.now xs c.swap.new.self c.rising.invariant.moved c.swap.ensures.permutation;
      place = omega (arith, up_in, ap length c.swap.ensures.after, length-swap xs up c.rising.hole);
      rising = subst (λ (ys : List ℕ). IsRising a ys up) (sym c.swap.ensures.after)
          (risen a xs up c.rising.hole child c.rising.invariant.place (c.is_below.ensures.yes c.if-not-is_below.false)
          c.rising.invariant.rising);
    }

pub returns-clause-heap : goal.returns-clause-heap
returns-clause-heap c =
    risen_top c.args.arena.now c.rising.ids c.rising.hole (omega (arith, c.rising-test.false)) c.rising.invariant.rising
