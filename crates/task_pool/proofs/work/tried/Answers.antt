use Rattle.std.proofs.Common.{◌≡◌, ◌<◌, sym, ◌∙◌, subst, arith, get_or, length, List}
use Rattle.std.proofs.lemmas.List.{get_or_default}
use Rattle.crossbeam_deque.specs.Handles.{view, IsPassOf, stealer_deque, stealer_flavor}
use Rattle.task_pool.specs.Lists.{times}
use Rattle.task_pool.specs.States.{Passed, Thief, IsEmptyPassOf}
use Rattle.task_pool.proofs.Places.{row_set, total-step, kept, at_place}
use Rattle.task_pool.proofs.work.tried.Goals as goal

pub stolen-requires : goal.stolen-requires
stolen-requires c =
    let ts : List Thief = c.args.thieves.now in
    let at = c.args.at in
    let th : Thief = c.index-thieves-at.result in
    let is_t = c.index-thieves-at.is in
    let row = c.requires.row in
    let len = row.0 in
    let low_t = c.requires.at in
    let items = c.args.passes.now.items in
    let low : at < length items = omega arith in
    let p0 : Passed = c.index_mut.result.now in
    let fit : IsEmptyPassOf (get_or ts at th) p0 =
    at_place (IsEmptyPassOf (get_or ts at th)) items at p0 p0 low c.index_mut.ensures.value
    (row.1.each at th p0 low) in
    let mine : IsEmptyPassOf th p0 = subst (λ (s : Thief). IsEmptyPassOf s p0) (sym is_t) fit in
    let one = mine.1 in
    (mine.0, subst (λ (s : Thief). stealer_flavor s ≡ 0) (sym is_t) (c.requires.fifo at th low_t), omega arith)

pub returns-clause-row : goal.returns-clause-row
returns-clause-row c =
    let ts : List Thief = c.args.thieves.now in
    let at = c.args.at in
    let th : Thief = c.index-thieves-at.result in
    let is_t = c.index-thieves-at.is in
    let row = c.requires.row in
    let len = row.0 in
    let low_t = c.requires.at in
    let items = c.args.passes.now.items in
    let low : at < length items = omega arith in
    let p0 : Passed = c.index_mut.result.now in
    let p1 : Passed = c.stolen.new.pass in
    let fit : IsEmptyPassOf (get_or ts at th) p0 =
    at_place (IsEmptyPassOf (get_or ts at th)) items at p0 p0 low c.index_mut.ensures.value
    (row.1.each at th p0 low) in
    let k = kept c.stolen.result (view p0) (view p1) c.stolen.ensures.took c.stolen.ensures.none in
    row_set ts items at p1 row (λ t. (
      subst (λ (s : Thief). IsPassOf (stealer_deque s) p1)
          (is_t ∙ get_or_default ts at th t low_t) c.stolen.ensures.same.0,
      k.0 ∙ fit.1,
      k.1 ∙ fit.2,
    ))

pub returns-clause-took : goal.returns-clause-took
returns-clause-took c x =
    let k = kept c.stolen.result (view c.index_mut.result.now) (view c.stolen.new.pass) c.stolen.ensures.took
    c.stolen.ensures.none in
    let ok = c.args.passes.now.ok.0 in
    let len = c.requires.row.0 in
    let s = total-step (λ (p : Passed). times x (view p).took) c.args.passes.now.items c.args.at c.index_mut.result.now
    c.stolen.new.pass (omega (arith, c.requires.at)) c.index_mut.ensures.value in
    let more = k.2 x in
    omega arith
