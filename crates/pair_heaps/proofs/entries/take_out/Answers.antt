use Rattle.std.proofs.Common.{◌-◌, arith, drop, set, length}
use Rattle.std.proofs.lemmas.List.{length-take-le, length-set}
use Rattle.pair_heaps.proofs.Fronts.{front_loose, front_heap, front_moved, front_moved_last, front_heap_last}
use Rattle.pair_heaps.proofs.entries.take_out.Goals as goal

pub settle-requires-clause-loose : goal.settle-requires-clause-loose
settle-requires-clause-loose c =
    front_loose c.args.arena.now c.args.entries.now c.place_in-place.result c.index-entries-last.result
    c.place_in-place.ensures.inside c.index-entries-last.is c.requires.heap

pub returns-then-place-last-clause-moved : goal.returns-then-place-last-clause-moved
returns-then-place-last-clause-moved c =
    let xs = c.args.entries.now in
    let ys = set xs c.place_in-place.result c.index-entries-last.result in
    front_moved xs c.settle.new.ids (drop (length xs - 1) ys) c.place_in-place.result c.args.id
    c.index-entries-last.result c.place_in-place.ensures.inside c.place_in-place.ensures.at c.index-entries-last.is
    (omega (
      arith,
      c.settle.auto.ids,
      length-set xs c.place_in-place.result c.index-entries-last.result,
      length-take-le
          (length xs - 1) ys,
    )) c.settle.ensures.moved

pub returns-then-place-last-clause-heap : goal.returns-then-place-last-clause-heap
returns-then-place-last-clause-heap c =
    let xs = c.args.entries.now in
    let ys = set xs c.place_in-place.result c.index-entries-last.result in
    front_heap c.args.arena.now c.settle.new.ids (drop (length xs - 1) ys) (length xs - 1)
    (omega (
      arith,
      c.settle.auto.ids,
      length-set xs c.place_in-place.result c.index-entries-last.result,
      length-take-le
          (length xs - 1) ys,
    )) c.settle.ensures.heap

pub returns-else-place-last-clause-moved : goal.returns-else-place-last-clause-moved
returns-else-place-last-clause-moved c =
    front_moved_last c.args.entries.now c.place_in-place.result c.args.id c.index-entries-last.result
    c.place_in-place.ensures.inside c.place_in-place.ensures.at c.index-entries-last.is

pub returns-else-place-last-clause-heap : goal.returns-else-place-last-clause-heap
returns-else-place-last-clause-heap c =
    front_heap_last c.args.arena.now c.args.entries.now c.place_in-place.result c.index-entries-last.result
    (omega (arith, c.place_in-place.ensures.inside, c.if-place-last.false)) c.index-entries-last.is c.requires.heap
