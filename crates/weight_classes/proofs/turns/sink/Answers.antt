use Rattle.std.proofs.Common.{refl, ◌<◌, ◌≢◌, sym, subst, arith, get_or, slice_set, List, ℕ}
use Rattle.std.proofs.lemmas.List.{length-set}
use Rattle.std.proofs.lemmas.List.Sorted.{IsPermutation-trans, IsPermutation-refl}
use Rattle.weight_classes.specs.declared.turns.Turn.{Turn}
use Rattle.weight_classes.specs.Turns.{IsChildOf, no_turn, key_at, MaySink}
use Rattle.weight_classes.proofs.Sifts.{beside, under, further, moved_same, sinks_on, sinks_end, first_sinks}
use Rattle.weight_classes.proofs.turns.sink.Goals as goal

pub sinking-init : goal.sinking-init
sinking-init c = record {
  place = c.requires.some;
  right = refl;
  moved = IsPermutation-refl (slice_set c.args.turns.now 0 c.args.turn);
  sinks = first_sinks c.args.turns.now c.args.turn c.requires.order;
}

pub sinking-preserved : goal.sinking-preserved
sinking-preserved c =
    let ts : List Turn = c.sinking.turns in
    let t : Turn = c.args.turn in
    let hole : ℕ = c.sinking.hole in
    let child : ℕ = c.in-Some.child in
    let below : IsChildOf child hole = under child hole c.sinking.right c.sinking.invariant.right c.in-Some.ensures.0 in
    let hole_child : hole < child = further child hole below in
    let apart : child ≢ hole = λ e. omega arith in
    record {
      place = omega (arith, c.in-Some.ensures.1, length-set ts hole (get_or ts child no_turn));
      right = refl;
      moved = IsPermutation-trans (slice_set c.args.turns.now 0 t) (slice_set ts hole t)
          (slice_set (slice_set ts hole (get_or ts child no_turn)) child t) c.sinking.invariant.moved
          (moved_same ts t hole child c.sinking.invariant.place c.in-Some.ensures.1 apart);
      sinks = subst (λ n. MaySink (key_at (slice_set (slice_set ts hole (get_or ts child no_turn)) child t)) n child)
          (sym (length-set ts hole (get_or ts child no_turn)))
          (sinks_on ts t hole child c.sinking.invariant.place c.in-Some.ensures.1 apart below c.in-Some.ensures.2
          (λ i of. c.in-Some.ensures.3 i (beside i hole c.sinking.right c.sinking.invariant.right of))
          c.sinking.invariant.sinks);
    }

pub returns-clause-order : goal.returns-clause-order
returns-clause-order c =
    sinks_end c.sinking.turns c.args.turn c.sinking.hole c.sinking.invariant.place
    (λ i of. c.in_default.ensures i (beside i c.sinking.hole c.sinking.right c.sinking.invariant.right of))
    c.sinking.invariant.sinks
