use Rattle.std.proofs.Common.{sym, subst, ap, arith, List, ℕ, length}
use Rattle.std.proofs.lemmas.List.Edits.{length-swap}
use Rattle.std.proofs.lemmas.List.Sorted.{IsPermutation-trans}
use Rattle.pair_heaps.specs.Sifting.{IsSinking}
use Rattle.pair_heaps.proofs.Sifted.{sunk, sunk_done, still_live}
use Rattle.pair_heaps.proofs.sift.sink.Goals as goal

pub lesser_child-requires : goal.lesser_child-requires
lesser_child-requires c =
    record { live = still_live c.args.arena.now c.args.ids.now c.sinking.ids c.sinking.invariant.moved c.requires.live }

pub is_below-requires-clause-live : goal.is_below-requires-clause-live
is_below-requires-clause-live c =
    still_live c.args.arena.now c.args.ids.now c.sinking.ids c.sinking.invariant.moved c.requires.live

pub returns-then-not-is_below-clause-heap : goal.returns-then-not-is_below-clause-heap
returns-then-not-is_below-clause-heap c =
    sunk_done c.args.arena.now c.sinking.ids c.in-Some.child c.sinking.hole
    (c.is_below.ensures.no c.if-not-is_below.true) c.in-Some.ensures.2 c.sinking.invariant.sinking

pub sinking-preserved : goal.sinking-preserved
sinking-preserved c =
    let a = c.args.arena.now in
    let xs = c.sinking.ids in
    let hole = c.sinking.hole in
    let child = c.in-Some.child in
    record {
      moved = IsPermutation-trans c.args.ids.now xs c.swap.new.self c.sinking.invariant.moved
          c.swap.ensures.permutation;
      place = omega (arith, c.in-Some.ensures.1, ap length c.swap.ensures.after, length-swap xs hole child);
      sinking = subst (λ (ys : List ℕ). IsSinking a ys child) (sym c.swap.ensures.after)
          (sunk a xs hole child c.in-Some.ensures.0 c.in-Some.ensures.1 (c.is_below.ensures.yes c.if-not-is_below.false)
          c.in-Some.ensures.2 c.sinking.invariant.sinking);
    }
