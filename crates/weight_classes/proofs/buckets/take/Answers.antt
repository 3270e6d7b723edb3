use Rattle.std.proofs.Common.{◌∙◌, ap, sym, refl, slice_set}
use Rattle.weight_classes.specs.declared.buckets.Bucket.{Bucket}
use Rattle.weight_classes.specs.Ids.{ids_in, need_of}
use Rattle.weight_classes.specs.Inside.{idss_in}
use Rattle.weight_classes.proofs.Held.{ranks_same, idss_now, need_is}
use Rattle.weight_classes.proofs.Holding.{indexed_same}
use Rattle.weight_classes.proofs.Pops.{roomy_taken}
use Rattle.weight_classes.proofs.buckets.take.Goals as goal

pub returns-clause-ranks : goal.returns-clause-ranks
returns-clause-ranks c =
    let b : Bucket = c.index_mut.result.now in
    let d : Bucket = record { weight = b.weight; hops = b.hops; next = b.next; ids = c.replace.new.dest } in
    ranks_same c.args.buckets.now.items c.args.at b d c.requires c.index_mut.ensures.value refl

pub returns-clause-same : goal.returns-clause-same
returns-clause-same c =
    let b : Bucket = c.index_mut.result.now in
    let d : Bucket = record { weight = b.weight; hops = b.hops; next = b.next; ids = c.replace.new.dest } in
    indexed_same c.args.buckets.now.items c.args.at b d c.requires c.index_mut.ensures.value refl refl

pub returns-clause-idss : goal.returns-clause-idss
returns-clause-idss c =
    let b : Bucket = c.index_mut.result.now in
    let d : Bucket = record { weight = b.weight; hops = b.hops; next = b.next; ids = c.replace.new.dest } in
    idss_now c.args.buckets.now.items c.args.at b d c.requires c.index_mut.ensures.value
    ∙ ap (slice_set (idss_in c.args.buckets.now.items) c.args.at) (ap ids_in c.replace.ensures.after)

pub returns-clause-need : goal.returns-clause-need
returns-clause-need c =
    ap need_of c.replace.ensures.value ∙ sym
    (need_is c.args.buckets.now.items c.args.at c.index_mut.result.now c.requires c.index_mut.ensures.value)

pub returns-clause-room : goal.returns-clause-room
returns-clause-room c =
    let b : Bucket = c.index_mut.result.now in
    let d : Bucket = record { weight = b.weight; hops = b.hops; next = b.next; ids = c.replace.new.dest } in
    roomy_taken c.args.buckets.now.items c.args.at b d c.requires c.index_mut.ensures.value c.replace.ensures.after
