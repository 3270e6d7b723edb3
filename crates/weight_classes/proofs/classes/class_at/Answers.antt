use Rattle.std.proofs.Common.{◌≡◌, List, ℕ, sym, subst, arith, vec_capacity}
use Rattle.weight_classes.specs.Ids.{ids_in}
use Rattle.weight_classes.specs.Classes.{Rank}
use Rattle.weight_classes.specs.declared.buckets.Bucket.{Bucket}
use Rattle.weight_classes.specs.Inside.{AreTurns, idss_in, rank_at, ranks_in}
use Rattle.weight_classes.proofs.Pops.{bucket_live, fits_after, popped_at}
use Rattle.weight_classes.proofs.classes.class_at.Goals as goal

pub winners-winners-requires-clause-live : goal.winners-winners-requires-clause-live
winners-winners-requires-clause-live c =
    bucket_live c.args.arena.now c.args.n c.args.buckets.now.items c.args.won.now.items c.requires.fits c.args.at
    c.requires.inside (ids_in c.take-ids.result) c.take-ids.ensures.ids

pub winners-winners-requires-clause-room : goal.winners-winners-requires-clause-room
winners-winners-requires-clause-room c = omega (arith, c.requires.room c.args.at, c.take-ids.ensures.need)

pub returns-clause-popped : goal.returns-clause-popped
returns-clause-popped c =
    let r : Rank = record { weight = c.rank-weight.result.0; hops = c.rank-weight.result.1 } in
    popped_at c.args.arena.now c.args.n c.args.buckets.now.items c.args.won.now.items c.requires.fits c.args.at
    c.requires.inside (ids_in c.take-ids.result) c.take-ids.ensures.ids c.take-ids.new.buckets.items
    c.take-ids.ensures.ranks c.take-ids.ensures.idss
    r (subst (λ (bs : List Bucket). rank_at (ranks_in bs) c.args.at ≡ r) c.deref.ensures.value c.rank-weight.ensures)
    c.winners-winners.new.won.items (ids_in c.winners-winners.result) c.winners-winners.ensures.chosen.0
    c.winners-winners.ensures.chosen.1 c.winners-winners.ensures.ends
    (omega (arith, c.requires.pairs, c.args.won.now.ok.0))

pub returns-clause-fits : goal.returns-clause-fits
returns-clause-fits c =
    fits_after c.args.arena.now c.args.n c.args.buckets.now.items c.args.won.now.items c.requires.fits c.args.at
    c.requires.inside (ids_in c.take-ids.result) c.take-ids.ensures.ids c.take-ids.new.buckets.items
    c.take-ids.ensures.ranks c.take-ids.ensures.idss c.winners-winners.new.won.items

pub returns-clause-room : goal.returns-clause-room
returns-clause-room c =
    λ i. omega (
      arith,
      c.take-ids.ensures.room (vec_capacity c.args.keys.now) c.requires.room i,
      c.winners-winners.ensures.capacity,
    )

pub returns-clause-pairs : goal.returns-clause-pairs
returns-clause-pairs c =
    omega (arith, c.winners-winners.ensures.chosen.1.many, c.winners-winners.new.won.ok.0, c.args.won.now.ok.0)

pub returns-clause-queue : goal.returns-clause-queue
returns-clause-queue c = λ turns s.
    subst (λ (rs : List Rank). AreTurns turns rs (idss_in c.take-ids.new.buckets.items)) (sym c.take-ids.ensures.ranks)
    (subst (λ (js : List (List ℕ)). AreTurns turns (ranks_in c.args.buckets.now.items) js) (sym c.take-ids.ensures.idss)
    s)
