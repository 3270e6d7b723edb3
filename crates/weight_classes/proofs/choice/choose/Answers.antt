use Rattle.std.proofs.Common.{ap, arith, ◌+◌}
use Rattle.weight_classes.specs.declared.choice.Key.{Key}
use Rattle.weight_classes.proofs.Rows.{place_inside}
use Rattle.weight_classes.proofs.Winning.{SeenIn, at_index, seen_in_ids, seen_upto, seen_more, seen_all, chosen_more, chosen_same, some_winner}
use Rattle.weight_classes.proofs.choice.choose.Goals as goal

pub consider-last-requires-clause-inside : goal.consider-last-requires-clause-inside
consider-last-requires-clause-inside c =
    let k = at_index c.args.arena.now c.args.ids.items c.args.keys.now c.requires.keys c.choosing.key-index
    c.key-item.result c.choosing-test.true c.key-item.is in
    omega (
      arith,
      place_inside c.args.arena.now c.key-item.result.id (c.requires.keys.ends c.key-item.result.id k.0),
      ap (λ (j : Key). j.place) k.1,
      c.requires.pairs,
      c.args.won.now.ok.0,
      c.choosing.won.ok.0,
      c.choosing.invariant.0.many,
    )

pub consider-last-requires-clause-all_live : goal.consider-last-requires-clause-all_live
consider-last-requires-clause-all_live c =
    λ q w. c.requires.live q (seen_in_ids c.args.arena.now c.args.ids.items c.args.keys.now c.requires.keys
    c.choosing.key-index q (c.choosing.invariant.0.seen q w))

pub consider-last-requires-clause-some : goal.consider-last-requires-clause-some
consider-last-requires-clause-some c = λ at_last.
    let k = at_index c.args.arena.now c.args.ids.items c.args.keys.now c.requires.keys c.choosing.key-index
    c.key-item.result c.choosing-test.true c.key-item.is in
    omega (
      arith,
      some_winner c.args.arena.now _ _ _ _ _ c.choosing.invariant.0
          (λ at_end. omega (
            arith,
            at_end,
            at_last,
            place_inside c.args.arena.now c.key-item.result.id
                (c.requires.keys.ends c.key-item.result.id k.0),
            ap (λ (j : Key). j.place) k.1,
            c.requires.pairs,
            c.args.won.now.ok.0,
          )),
    )

pub consider-last-requires-clause-room : goal.consider-last-requires-clause-room
consider-last-requires-clause-room c =
    omega (arith, c.choosing.invariant.1, c.choosing.invariant.2, c.choosing-test.true)

pub choosing-preserved : goal.choosing-preserved
choosing-preserved c =
    let k = at_index c.args.arena.now c.args.ids.items c.args.keys.now c.requires.keys c.choosing.key-index
    c.key-item.result c.choosing-test.true c.key-item.is in (
      chosen_same c.args.arena.now _ (SeenIn c.args.keys.now (c.choosing.key-index + 1)) _ _ _ _
          (λ q. seen_more c.args.arena.now c.args.ids.items c.args.keys.now c.requires.keys c.choosing.key-index
          c.key-item.result q c.choosing-test.true c.key-item.is)
          (chosen_more c.args.arena.now (SeenIn c.args.keys.now c.choosing.key-index) c.args.won.now.items
          c.choosing.won.items c.choosing.ids.items c.choosing.last c.key-item.result.id c.choosing.invariant.0
          (λ q. seen_upto c.args.arena.now c.args.ids.items c.args.keys.now c.requires.keys c.choosing.key-index
          c.key-item.result q c.choosing-test.true c.key-item.is)
          (omega (
            arith,
            place_inside c.args.arena.now c.key-item.result.id
                (c.requires.keys.ends c.key-item.result.id k.0),
            c.requires.pairs,
            c.args.won.now.ok.0,
          ))
          c.key-item.result _ _ _ k.1 c.consider-last.ensures.considered),
      omega (arith, c.choosing.invariant.1, c.consider-last.ensures.len),
      omega (arith, c.choosing.invariant.2, c.consider-last.ensures.capacity),
    )

pub returns : goal.returns
returns c = (
  c.choosing.last,
  chosen_same c.args.arena.now _ _ _ _ _ _
      (λ q. seen_all c.args.arena.now c.args.ids.items c.args.keys.now c.requires.keys c.choosing.key-index q
      c.choosing-test.false) c.choosing.invariant.0,
)

pub consider-last-requires-clause-live : goal.consider-last-requires-clause-live
consider-last-requires-clause-live c =
    c.requires.live c.key-item.result.id (at_index c.args.arena.now c.args.ids.items c.args.keys.now c.requires.keys
    c.choosing.key-index c.key-item.result c.choosing-test.true c.key-item.is).0
