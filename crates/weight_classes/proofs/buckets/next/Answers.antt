use Rattle.std.proofs.Common.{◌≡◌, ◌<◌, ◌==◌, ◌∷◌, List, ℕ, Bool, true, false, arith, ap, length, get_or, subst, ◌∙◌, sym}
use Rattle.std.proofs.lemmas.List.{length-map}
use Rattle.std.proofs.lemmas.List.Sorted.{length_permutation}
use Rattle.weight_classes.specs.declared.turns.Turn.{Turn}
use Rattle.weight_classes.specs.Ids.{ids_in}
use Rattle.weight_classes.specs.Inside.{IsQueue, rank_in, ranks_in, idss_in}
use Rattle.weight_classes.proofs.Held.{ids_get}
use Rattle.weight_classes.proofs.Waiting.{first_least, turn_over, none_lost}
use Rattle.weight_classes.proofs.buckets.next.Goals as goal

some_by : (ids : List ℕ) (r : Bool) → r ≡ (length ids == 0) → r ≡ false → 0 < length ids
some_by ids r e f = grind arith

none_by : (ids : List ℕ) (r : Bool) → r ≡ (length ids == 0) → r ≡ true → length ids ≡ 0
none_by ids r e f = grind arith

pub bounds-buckets-turn : goal.bounds-buckets-turn
bounds-buckets-turn c =
    let t = c.in-Some.turn in
    let k : t.bucket < length (ranks_in c.args.buckets.now) =
    (c.turns.invariant.known t c.in-Some.ensures.first.there).0 in
    omega (arith, k, length-map c.args.buckets.now rank_in)

pub returns-then-not-is_empty-clause-some : goal.returns-then-not-is_empty-clause-some
returns-then-not-is_empty-clause-some c =
    let bs = c.args.buckets.now in
    let t = c.in-Some.turn in
    let k : t.bucket < length (ranks_in bs) = (c.turns.invariant.known t c.in-Some.ensures.first.there).0 in
    let b = c.index-buckets-turn.result in
    record {
      inside = omega (arith, k, length-map bs rank_in);
      some = omega (
        arith,
        ap length (ids_get bs t.bucket b (omega (arith, k, length-map bs rank_in))),
        some_by
            (ids_in (get_or bs t.bucket b).ids) c.is_empty.result c.is_empty.ensures c.if-not-is_empty.true,
      );
      least = λ j inside some. first_least c.turns.turns.items (ranks_in bs) (idss_in bs) c.turns.invariant t
          c.in-Some.ensures.first j (omega (arith, inside, length-map bs rank_in)) some;
    }

pub returns-then-not-is_empty-clause-others : goal.returns-then-not-is_empty-clause-others
returns-then-not-is_empty-clause-others c =
    let t = c.in-Some.turn in
    turn_over c.turns.turns.items (ranks_in c.args.buckets.now) (idss_in c.args.buckets.now) c.turns.invariant t
    c.take_first.new.turns.items (c.turns.invariant.known t c.in-Some.ensures.first.there).0
    c.take_first.ensures.order c.in-Some.ensures.some

pub returns-clause-queue : goal.returns-clause-queue
returns-clause-queue c =
    let bs = c.args.buckets.now in
    subst (λ (ts : List Turn). IsQueue ts bs) (c.in_default.ensures.none ∙ sym c.in_default.ensures.left)
    c.turns.invariant

pub turns-preserved : goal.turns-preserved
turns-preserved c =
    let bs = c.args.buckets.now in
    let t = c.in-Some.turn in
    let k : t.bucket < length (ranks_in bs) = (c.turns.invariant.known t c.in-Some.ensures.first.there).0 in
    let b = c.index-buckets-turn.result in
    none_lost c.take_first.new.turns.items (ranks_in bs) (idss_in bs) t.bucket
    (omega (
      arith,
      ap length (ids_get bs t.bucket b (omega (arith, k, length-map bs rank_in))),
      none_by
          (ids_in (get_or bs t.bucket b).ids) c.is_empty.result c.is_empty.ensures c.if-not-is_empty.false,
    ))
    (turn_over c.turns.turns.items (ranks_in bs) (idss_in bs) c.turns.invariant t c.take_first.new.turns.items k
    c.take_first.ensures.order c.in-Some.ensures.some)

pub turns-smaller : goal.turns-smaller
turns-smaller c =
    let moved : length (c.in-Some.turn ∷ c.take_first.new.turns.items) ≡ length c.turns.turns.items =
    length_permutation c.turns.turns.items (c.in-Some.turn ∷ c.take_first.new.turns.items) c.in-Some.ensures.some in
    omega (arith, moved, c.take_first.new.turns.ok.0, c.turns.turns.ok.0)
