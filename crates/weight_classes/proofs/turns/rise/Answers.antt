use Rattle.std.proofs.Common.{◌<◌, ◌≢◌, sym, subst, arith, length, get_or, slice_set, List, ℕ}
use Rattle.std.proofs.lemmas.List.{length-set}
use Rattle.std.proofs.lemmas.List.Sorted.{IsPermutation-trans}
use Rattle.weight_classes.specs.declared.turns.Turn.{Turn}
use Rattle.weight_classes.specs.Turns.{no_turn, key_at, MayRise}
use Rattle.weight_classes.proofs.Sifts.{further, moved_same, rises_on, rises_end}
use Rattle.weight_classes.proofs.turns.rise.Goals as goal

pub rising-preserved : goal.rising-preserved
rising-preserved c =
    let ts : List Turn = c.rising.turns in
    let t : Turn = get_or c.args.turns.now c.args.at no_turn in
    let hole : ℕ = c.rising.hole in
    let up : ℕ = c.in-Some.up in
    let up_hole : up < hole = further hole up c.in-Some.ensures.0 in
    let up_in : up < length ts = omega (arith, up_hole, c.rising.invariant.place) in
    let apart : up ≢ hole = λ e. omega arith in
    record {
      place = omega (arith, up_in, length-set ts hole (get_or ts up no_turn));
      moved = IsPermutation-trans c.args.turns.now (slice_set ts hole t)
          (slice_set (slice_set ts hole (get_or ts up no_turn)) up t) c.rising.invariant.moved
          (moved_same ts t hole up c.rising.invariant.place up_in apart);
      rises = subst (λ n. MayRise (key_at (slice_set (slice_set ts hole (get_or ts up no_turn)) up t)) n up)
          (sym (length-set ts hole (get_or ts up no_turn)))
          (rises_on ts t hole up c.rising.invariant.place up_in apart c.in-Some.ensures.0 c.in-Some.ensures.1
          c.rising.invariant.rises);
    }

pub returns-clause-order : goal.returns-clause-order
returns-clause-order c =
    let t : Turn = get_or c.args.turns.now c.args.at no_turn in
    rises_end c.rising.turns t c.rising.hole c.rising.invariant.place c.in_default.ensures c.rising.invariant.rises
