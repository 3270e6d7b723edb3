use Rattle.std.proofs.Common.{◌∷◌, sym, subst, drop, take, List, ℕ}
use Rattle.std.specs.List.Sorted.{IsPermutation}
use Rattle.pair_heaps.specs.Heaps.{IsHeap}
use Rattle.pair_heaps.proofs.Fronts.{front_of}
use Rattle.pair_heaps.proofs.entries.take_out_of.Goals as goal

pub returns-clause-moved : goal.returns-clause-moved
returns-clause-moved c =
    let xs = c.args.entries.now in
    let k = c.args.len in
    subst (λ (ys : List ℕ). IsPermutation (take k xs) (c.args.id ∷ ys))
    (sym (front_of xs c.take_out.new.entries (drop k xs) k c.requires.inside c.take_out.auto.entries))
    c.take_out.ensures.moved

pub returns-clause-heap : goal.returns-clause-heap
returns-clause-heap c =
    let xs = c.args.entries.now in
    let k = c.args.len in
    subst (λ (ys : List ℕ). IsHeap c.args.arena.now ys)
    (sym (front_of xs c.take_out.new.entries (drop k xs) k c.requires.inside c.take_out.auto.entries))
    c.take_out.ensures.heap
