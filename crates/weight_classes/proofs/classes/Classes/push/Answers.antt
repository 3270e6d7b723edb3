use Rattle.std.proofs.Common.{sym, ap, arith, subst, refl, rules, vec_capacity}
use Rattle.weight_classes.specs.Classes.{Classes, Rank, ClassesFit, rank_of}
use Rattle.weight_classes.specs.Inside.{key_of}
use Rattle.weight_classes.proofs.Ranks.{few_hops, low_weight}
use Rattle.weight_classes.proofs.Held.{same_rank, pushed_fits}
use Rattle.std.proofs.lemmas.Result.{on_ok_weaker, on_err_weaker}
use Rattle.weight_classes.proofs.Holding.{added_queue, added_roomy, held_still, held_pushed, both_cases}
use Rattle.weight_classes.proofs.classes.Classes.push.Goals as goal

pub invariant_of-self : goal.invariant_of-self
invariant_of-self c = record {
  pairs = c.self.invariant.pairs;
  room = added_roomy c.self.inside.buckets.items c.bucket_of.new.buckets.items c.bucket_of.ensures.added
      (vec_capacity c.self.inside.keys) c.self.invariant.room;
  indexed = c.bucket_of.ensures.indexed;
  queue = added_queue c.self.inside.buckets.items c.bucket_of.new.buckets.items c.bucket_of.ensures.added
      c.self.inside.turns.items c.self.invariant.queue;
}

pub returns-in_err-at-clause-err : goal.returns-in_err-at-clause-err
returns-in_err-at-clause-err c =
    let e = held_still c.args.self.now c.args.arena.now c.self.inside.n c.args.id (rank_of c.args.arena.now c.args.id)
    c.self.inside.buckets.items c.bucket_of.new.buckets.items c.bucket_of.new.buckets.items c.self.inside.won.items
    0 c.self.view_is c.bucket_of.ensures.added refl refl in search rules

pub returns-in_err-at-clause-fits : goal.returns-in_err-at-clause-fits
returns-in_err-at-clause-fits c =
    let e = held_still c.args.self.now c.args.arena.now c.self.inside.n c.args.id (rank_of c.args.arena.now c.args.id)
    c.self.inside.buckets.items c.bucket_of.new.buckets.items c.bucket_of.new.buckets.items c.self.inside.won.items
    0 c.self.view_is c.bucket_of.ensures.added refl refl in
    subst (λ (h : Classes). ClassesFit h c.args.arena.now) (sym e) c.requires.fits

pub hold-requires-clause-queue : goal.hold-requires-clause-queue
hold-requires-clause-queue c =
    added_queue c.self.inside.buckets.items c.bucket_of.new.buckets.items c.bucket_of.ensures.added
    c.self.inside.turns.items c.self.invariant.queue

pub hold-requires-clause-key : goal.hold-requires-clause-key
hold-requires-clause-key c = ap key_of (sym c.in_ok-at.ensures.bucket.1)

pub bucket_of-requires-clause-few : goal.bucket_of-requires-clause-few
bucket_of-requires-clause-few c =
    omega (
      arith,
      few_hops c.args.arena.now c.args.id c.hops-hops.ensures.lawful c.requires.live,
      c.hops-hops.ensures.value,
    )

pub overflow_mul-key : goal.overflow_mul-key
overflow_mul-key c =
    omega (
      arith,
      low_weight c.args.arena.now c.args.id c.hops-hops.ensures.lawful c.requires.live,
      c.weight-weight.ensures.value,
    )

pub overflow_add-key : goal.overflow_add-key
overflow_add-key c =
    omega (
      arith,
      low_weight c.args.arena.now c.args.id c.hops-hops.ensures.lawful c.requires.live,
      c.weight-weight.ensures.value,
      few_hops c.args.arena.now c.args.id c.hops-hops.ensures.lawful c.requires.live,
      c.hops-hops.ensures.value,
    )

pub hold-requires-clause-room : goal.hold-requires-clause-room
hold-requires-clause-room c =
    added_roomy c.self.inside.buckets.items c.bucket_of.new.buckets.items c.bucket_of.ensures.added
    (vec_capacity c.self.inside.keys) c.self.invariant.room

pub returns-clause-ok : goal.returns-clause-ok
returns-clause-ok c =
    let r : Rank = record { weight = c.weight-weight.result; hops = c.hops-hops.result } in
    on_ok_weaker c.hold.result (λ idss. held_pushed c.args.self.now c.args.arena.now c.self.inside.n c.args.id r
    c.self.inside.buckets.items c.bucket_of.new.buckets.items c.hold.new.buckets.items c.self.inside.won.items
    c.in_ok-at.at c.self.view_is c.bucket_of.ensures.added c.hold.ensures.ranks (search rules) (search rules)
    (same_rank r (rank_of c.args.arena.now c.args.id) c.weight-weight.ensures.value c.hops-hops.ensures.value) idss)
    c.hold.ensures.ok

pub returns-clause-err : goal.returns-clause-err
returns-clause-err c =
    on_err_weaker c.hold.result (λ idss. held_still c.args.self.now c.args.arena.now c.self.inside.n c.args.id
    (rank_of c.args.arena.now c.args.id) c.self.inside.buckets.items c.bucket_of.new.buckets.items
    c.hold.new.buckets.items c.self.inside.won.items c.in_ok-at.at c.self.view_is c.bucket_of.ensures.added
    c.hold.ensures.ranks idss) c.hold.ensures.err

pub returns-clause-fits : goal.returns-clause-fits
returns-clause-fits c =
    let r : Rank = record { weight = c.weight-weight.result; hops = c.hops-hops.result } in
    both_cases c.hold.result
    (λ idss. pushed_fits c.args.self.now _ c.args.arena.now c.args.id
    (held_pushed c.args.self.now c.args.arena.now c.self.inside.n c.args.id r c.self.inside.buckets.items
    c.bucket_of.new.buckets.items c.hold.new.buckets.items c.self.inside.won.items c.in_ok-at.at c.self.view_is
    c.bucket_of.ensures.added c.hold.ensures.ranks (search rules) (search rules)
    (same_rank r (rank_of c.args.arena.now c.args.id) c.weight-weight.ensures.value c.hops-hops.ensures.value) idss)
    c.requires.fits c.requires.live)
    (λ idss. subst (λ (h : Classes). ClassesFit h c.args.arena.now)
    (sym (held_still c.args.self.now c.args.arena.now c.self.inside.n c.args.id (rank_of c.args.arena.now c.args.id)
    c.self.inside.buckets.items c.bucket_of.new.buckets.items c.hold.new.buckets.items c.self.inside.won.items
    c.in_ok-at.at c.self.view_is c.bucket_of.ensures.added c.hold.ensures.ranks idss)) c.requires.fits)
    c.hold.ensures.ok c.hold.ensures.err
