use Rattle.std.proofs.Common.{◌≡◌, List, ℕ, arith, refl, sym, ◌∙◌, ap, subst, length, false, true, Bool, ◌==◌, ◌<◌, ◌∷◌, ◌++◌, [], vec_capacity}
use Rattle.std.specs.List.Sorted.{IsPermutation}
use Rattle.std.proofs.lemmas.List.{nil_from_length}
use Rattle.weight_classes.specs.declared.buckets.Bucket.{Bucket}
use Rattle.weight_classes.specs.declared.ids.Ids.TheVariants.{One}
use Rattle.weight_classes.specs.Ids.{ids_in}
use Rattle.weight_classes.specs.Inside.{key_of}
use Rattle.weight_classes.proofs.Chains.{rank_is}
use Rattle.weight_classes.proofs.Held.{ranks_same, idss_same, need_is}
use Rattle.std.proofs.lemmas.Result.{on_ok_weaker, on_err_weaker}
use Rattle.weight_classes.proofs.Holding.{indexed_same, queue_pushed, queue_kept, roomy_set, idss_pushed}
use Rattle.weight_classes.proofs.buckets.hold.Goals as goal

some_by : (ids : List ℕ) (r : Bool) → r ≡ (length ids == 0) → r ≡ false → 0 < length ids
some_by ids r e f = grind arith

none_by : (ids : List ℕ) (r : Bool) → r ≡ (length ids == 0) → r ≡ true → length ids ≡ 0
none_by ids r e f = grind arith

pub put-requires : goal.put-requires
put-requires c =
    omega (
      arith,
      c.requires.room c.args.at,
      need_is c.args.buckets.now.items c.args.at c.index_mut-bucket.result.now
          c.requires.inside c.index_mut-bucket.ensures.value,
    )

pub returns-then-not-is_empty-clause-ranks : goal.returns-then-not-is_empty-clause-ranks
returns-then-not-is_empty-clause-ranks c =
    let b : Bucket = c.index_mut-bucket.result.now in
    let d : Bucket = record { weight = b.weight; hops = b.hops; next = b.next; ids = c.put.new.ids } in
    ranks_same c.args.buckets.now.items c.args.at b d c.requires.inside c.index_mut-bucket.ensures.value refl

pub returns-then-not-is_empty-clause-same : goal.returns-then-not-is_empty-clause-same
returns-then-not-is_empty-clause-same c =
    let b : Bucket = c.index_mut-bucket.result.now in
    let d : Bucket = record { weight = b.weight; hops = b.hops; next = b.next; ids = c.put.new.ids } in
    indexed_same c.args.buckets.now.items c.args.at b d c.requires.inside c.index_mut-bucket.ensures.value refl refl

pub returns-then-not-is_empty-clause-ok : goal.returns-then-not-is_empty-clause-ok
returns-then-not-is_empty-clause-ok c =
    let b : Bucket = c.index_mut-bucket.result.now in
    let d : Bucket = record { weight = b.weight; hops = b.hops; next = b.next; ids = c.put.new.ids } in
    on_ok_weaker c.put.result (λ is. idss_pushed c.args.buckets.now.items c.args.at b d c.requires.inside
    c.index_mut-bucket.ensures.value c.args.id is) c.put.ensures.ok

pub returns-then-not-is_empty-clause-err : goal.returns-then-not-is_empty-clause-err
returns-then-not-is_empty-clause-err c =
    let b : Bucket = c.index_mut-bucket.result.now in
    let d : Bucket = record { weight = b.weight; hops = b.hops; next = b.next; ids = c.put.new.ids } in
    on_err_weaker c.put.result (λ same. idss_same c.args.buckets.now.items c.args.at b d c.requires.inside
    c.index_mut-bucket.ensures.value (ap ids_in same)) c.put.ensures.err

pub returns-then-not-is_empty-clause-queue : goal.returns-then-not-is_empty-clause-queue
returns-then-not-is_empty-clause-queue c =
    let b : Bucket = c.index_mut-bucket.result.now in
    let d : Bucket = record { weight = b.weight; hops = b.hops; next = b.next; ids = c.put.new.ids } in
    queue_kept c.args.buckets.now.items c.args.at b d c.requires.inside c.index_mut-bucket.ensures.value refl
    c.args.turns.now.items c.requires.queue
    (some_by (ids_in b.ids) c.is_empty.result c.is_empty.ensures c.if-not-is_empty.true)

pub returns-then-not-is_empty-clause-room : goal.returns-then-not-is_empty-clause-room
returns-then-not-is_empty-clause-room c =
    let b : Bucket = c.index_mut-bucket.result.now in
    let d : Bucket = record { weight = b.weight; hops = b.hops; next = b.next; ids = c.put.new.ids } in
    roomy_set c.args.buckets.now.items c.args.at b d c.requires.inside c.index_mut-bucket.ensures.value
    (vec_capacity c.args.keys.now) (vec_capacity c.put.new.keys) c.requires.room c.put.ensures.capacity
    c.put.ensures.room

pub returns-clause-ranks : goal.returns-clause-ranks
returns-clause-ranks c =
    let b : Bucket = c.index_mut-bucket.result.now in
    let d : Bucket = record { weight = b.weight; hops = b.hops; next = b.next; ids = One c.args.id } in
    ranks_same c.args.buckets.now.items c.args.at b d c.requires.inside c.index_mut-bucket.ensures.value refl

pub returns-clause-same : goal.returns-clause-same
returns-clause-same c =
    let b : Bucket = c.index_mut-bucket.result.now in
    let d : Bucket = record { weight = b.weight; hops = b.hops; next = b.next; ids = One c.args.id } in
    indexed_same c.args.buckets.now.items c.args.at b d c.requires.inside c.index_mut-bucket.ensures.value refl refl

pub returns-clause-ok : goal.returns-clause-ok
returns-clause-ok c =
    let b : Bucket = c.index_mut-bucket.result.now in
    let d : Bucket = record { weight = b.weight; hops = b.hops; next = b.next; ids = One c.args.id } in
    idss_pushed c.args.buckets.now.items c.args.at b d c.requires.inside c.index_mut-bucket.ensures.value c.args.id
    (ap (λ (js : List ℕ). js ++ c.args.id ∷ [])
    (sym (nil_from_length (ids_in b.ids)
    (none_by (ids_in b.ids) c.is_empty.result c.is_empty.ensures c.if-not-is_empty.false))))

pub returns-clause-queue : goal.returns-clause-queue
returns-clause-queue c =
    let b : Bucket = c.index_mut-bucket.result.now in
    let d : Bucket = record { weight = b.weight; hops = b.hops; next = b.next; ids = One c.args.id } in
    let moved : IsPermutation (record { key = c.args.key; bucket = c.args.at } ∷ c.args.turns.now.items)
    c.insert.new.turns.items = c.in_ok-insert.ensures.ok in
    queue_pushed c.args.buckets.now.items c.args.at b d c.requires.inside c.index_mut-bucket.ensures.value refl
    c.args.turns.now.items c.insert.new.turns.items c.requires.queue
    (subst (λ k. IsPermutation (record { key = k; bucket = c.args.at } ∷ c.args.turns.now.items)
    c.insert.new.turns.items) (c.requires.key
    ∙ ap key_of (rank_is c.args.buckets.now.items c.args.at b c.requires.inside c.index_mut-bucket.ensures.value))
    moved)
    c.in_ok-insert.ensures.order

pub returns-clause-room : goal.returns-clause-room
returns-clause-room c =
    let b : Bucket = c.index_mut-bucket.result.now in
    let d : Bucket = record { weight = b.weight; hops = b.hops; next = b.next; ids = One c.args.id } in
    roomy_set c.args.buckets.now.items c.args.at b d c.requires.inside c.index_mut-bucket.ensures.value
    (vec_capacity c.args.keys.now) (vec_capacity c.args.keys.now) c.requires.room (omega arith) (omega arith)
