use Rattle.std.proofs.Common.{◌≡◌, ◌∙◌, refl, subst, arith, length, vec_len}
use Rattle.block_run.specs.declared.read.BlockReader.{BlockReader}
use Rattle.block_run.specs.Answers.{BlockReply}
use Rattle.block_run.proofs.Advances.{none_taken, cut_opening, cut_vertices, on_err}
use Rattle.block_run.proofs.Ordered.{all_readers, places_inside, reply_of, vec_lens}
use Rattle.block_run.proofs.live.live_block.Goals as goal

pub returns-in_err-first-clause-memory : goal.returns-in_err-first-clause-memory
returns-in_err-first-clause-memory g c =
    on_err c.from_residual.result (none_taken c.args.engine.now c.args.plan.now.stars)

pub returns-in_err-pool-clause-memory : goal.returns-in_err-pool-clause-memory
returns-in_err-pool-clause-memory g c =
    on_err c.from_residual-in_err-pool.result (none_taken c.args.engine.now c.args.plan.now.stars)

pub returns-in_err-readers-clause-memory : goal.returns-in_err-readers-clause-memory
returns-in_err-readers-clause-memory g c =
    on_err c.from_residual-in_err-readers.result (none_taken c.args.engine.now c.args.plan.now.stars)

pub run-requires-clause-readers : goal.run-requires-clause-readers
run-requires-clause-readers g c κs within =
    all_readers c.in_ok-pool.field-0.pool _ c.in_ok-readers.readers.items c.in_ok-readers.ensures.same
    c.in_ok-pool.ensures.own

pub returns-in_err-lists-clause-opening : goal.returns-in_err-lists-clause-opening
returns-in_err-lists-clause-opening g c = cut_opening _ _ _ c.run.ensures.cut_off

pub returns-in_err-lists-clause-vertices : goal.returns-in_err-lists-clause-vertices
returns-in_err-lists-clause-vertices g c = cut_vertices _ _ _ c.run.ensures.cut_off

pub in_order-requires-clause-long : goal.in_order-requires-clause-long
in_order-requires-clause-long g c =
    let count : vec_len c.in_ok-readers.readers ≡ c.args.readers =
    vec_lens (λ (b : BlockReader). b.reader) c.in_ok-readers.readers c.in_ok-pool.field-0.readers
    c.in_ok-readers.ensures.same ∙ c.in_ok-pool.ensures.readers in
    places_inside c.args.plan.now c.items-asks.result.now (vec_len c.in_ok-lists.lists)
    (vec_len c.in_ok-readers.readers) (length c.items-asks.result.now) c.in_ok-lists.lists.items
    c.in_ok-lists.ensures.len (omega (arith, count, c.requires.readers)) refl c.in_ok-lists.ensures.each

pub returns-in_err-items-clause-opening : goal.returns-in_err-items-clause-opening
returns-in_err-items-clause-opening g c = cut_opening _ _ _ c.run.ensures.cut_off

pub returns-in_err-items-clause-vertices : goal.returns-in_err-items-clause-vertices
returns-in_err-items-clause-vertices g c = cut_vertices _ _ _ c.run.ensures.cut_off

pub returns-clause-answers : goal.returns-clause-answers
returns-clause-answers g c =
    let count : vec_len c.in_ok-readers.readers ≡ c.args.readers =
    vec_lens (λ (b : BlockReader). b.reader) c.in_ok-readers.readers c.in_ok-pool.field-0.readers
    c.in_ok-readers.ensures.same ∙ c.in_ok-pool.ensures.readers in
    let reply =
    reply_of c.args.plan.now c.items-asks.result.now (vec_len c.in_ok-lists.lists) (vec_len c.in_ok-readers.readers)
    (length c.items-asks.result.now) c.in_ok-lists.lists.items c.in_ok-lists.ensures.len
    (omega (arith, count, c.requires.readers)) refl c.in_ok-lists.ensures.each
    c.in_ok-items.items c.in_ok-items.items c.in_ok-items.ensures.len c.in_ok-items.ensures.each in
    subst (λ asks. BlockReply c.args.plan.now asks c.args.readers c.in_ok-items.items.items) c.items-asks.ensures
    (subst (λ n. BlockReply c.args.plan.now c.items-asks.result.now n c.in_ok-items.items.items) count reply)

pub returns-clause-opening : goal.returns-clause-opening
returns-clause-opening g c = cut_opening _ _ _ c.run.ensures.cut_off

pub returns-clause-vertices : goal.returns-clause-vertices
returns-clause-vertices g c = cut_vertices _ _ _ c.run.ensures.cut_off
