use Rattle.std.proofs.Common.{◌+◌, arith, drop, set}
use Rattle.std.proofs.lemmas.List.{length-take-le, length-set}
use Rattle.pair_heaps.proofs.Fronts.{put_rises, front_heap}
use Rattle.pair_heaps.proofs.entries.put.Goals as goal

pub rise-requires-clause-rising : goal.rise-requires-clause-rising
rise-requires-clause-rising c =
    put_rises c.args.arena.now c.args.entries.now c.args.len c.args.id c.requires.room c.requires.heap

pub returns-clause-heap : goal.returns-clause-heap
returns-clause-heap c =
    let xs = set c.args.entries.now c.args.len c.args.id in
    front_heap c.args.arena.now c.rise.new.ids (drop (c.args.len + 1) xs) (c.args.len + 1)
    (omega (
      arith,
      c.rise.auto.ids,
      c.requires.room,
      length-set c.args.entries.now c.args.len c.args.id,
      length-take-le
          (c.args.len + 1) xs,
    )) c.rise.ensures.heap
