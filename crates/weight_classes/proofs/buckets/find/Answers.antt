use Rattle.weight_classes.specs.Classes.{Rank}
use Rattle.weight_classes.proofs.Chains.{bucket_steps, ahead_falls}
use Rattle.weight_classes.proofs.buckets.find.Goals as goal
use Rattle.weight_classes.proofs.buckets.find.Goals.{else-bucket-weight-via-then-bucket-weight+else-bucket-hops, else-bucket-weight-via-else-bucket-weight}

pub chain-smaller : goal.chain-smaller
chain-smaller c =
    let r : Rank = record { weight = c.args.weight; hops = c.args.hops } in
    ahead_falls c.chain.at c.index-buckets-at.result.next c.chain-test.true
    (bucket_steps c.args.heads.now c.args.buckets.now r c.chain.at c.index-buckets-at.result c.requires
    c.chain.invariant c.chain-test.true c.index-buckets-at.is
    (λ w h. elim c.else-bucket-weight.branch [
      | else-bucket-weight-via-then-bucket-weight+else-bucket-hops f ↦
          f.if-bucket-hops.false h
      | else-bucket-weight-via-else-bucket-weight f ↦ f.if-bucket-weight.false w
    ])).1

pub chain-preserved : goal.chain-preserved
chain-preserved c =
    let r : Rank = record { weight = c.args.weight; hops = c.args.hops } in
    (bucket_steps c.args.heads.now c.args.buckets.now r c.chain.at c.index-buckets-at.result c.requires
    c.chain.invariant c.chain-test.true c.index-buckets-at.is
    (λ w h. elim c.else-bucket-weight.branch [
      | else-bucket-weight-via-then-bucket-weight+else-bucket-hops f ↦
          f.if-bucket-hops.false h
      | else-bucket-weight-via-else-bucket-weight f ↦ f.if-bucket-weight.false w
    ])).0
