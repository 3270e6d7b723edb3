use Rattle.std.proofs.Common.{ℕ, ◌+◌, ◌-◌, ◌<◌, ap, sym, subst, arith, length, length-set, get_or, set, List}
use Rattle.task_pool.specs.declared.work.WorkerState.{WorkerState}
use Rattle.task_pool.specs.Lists.{times}
use Rattle.task_pool.specs.Shares.{ALL_PARTS}
use Rattle.task_pool.specs.States.{Thief, IsRow, IsFresh, pushed_at}
use Rattle.task_pool.proofs.Places.{below, at_place, set_or, total-step, total-equal, with_passes, states_set, states_again, fresh_same, fresh_with}
use Rattle.task_pool.proofs.deal.lend.Goals as goal

pub loop-who-preserved : goal.loop-who-preserved
loop-who-preserved g c =
    let inv = c.loop-who.invariant in
    let ts : List Thief = c.args.thieves.now in
    let who = c.loop-who.who in
    let old : List (WorkerState g.row.T.Denot) = c.loop-who.states.items in
    let mid : List (WorkerState g.row.T.Denot) = c.row.new.states.items in
    let e = c.in_ok-passes.ensures in
    let ps = c.in_ok-passes.passes in
    let d0 : WorkerState g.row.T.Denot = c.index_mut.result.now in
    let is = c.index_mut.ensures.value in
    let len = inv.states.len in
    let len2 = e.states.len in
    let okl = c.loop-who.states.ok.0 in
    let few = c.requires.workers in
    let test = c.loop-who-test.true in
    let end = c.len-who-end.ensures in
    let oka = c.args.states.now.ok.0 in
    let lena = c.requires.states.len in
    let low : who < length mid = omega arith in
    let keeps : (j : ℕ) (d : WorkerState g.row.T.Denot) → j < length mid → IsFresh (get_or mid j d) =
    λ j d lt. fresh_same (get_or old j d) (get_or mid j d) (inv.fresh j d (omega arith)) (e.same j d (omega arith))
    (e.took j d (omega arith)) in record {
      states = states_again (1023 - who) (ALL_PARTS - (who + 1)) ts (set mid who (with_passes d0 ps)) (omega arith)
          (states_set (1023 - who) ts mid who d0 ps low is e.states);
      rows = λ j d lt. set_or (λ (z : WorkerState g.row.T.Denot). IsRow ts z.passes.items) mid who j (with_passes d0 ps)
          d (omega arith) (λ same. e.row.0)
          (λ other. subst (λ v. IsRow ts v.items) (sym (e.same j d (omega arith)).passes)
          (inv.rows j d (below j who lt other)));
      fresh = λ j d lt. set_or IsFresh mid who j (with_passes d0 ps) d
          (let s = length-set mid who (with_passes d0 ps) in omega arith)
          (λ same. fresh_with d0 ps (at_place IsFresh mid who d0 d low is (keeps who d low)) e.row.1)
          (λ other. keeps j d (let s = length-set mid who (with_passes d0 ps) in omega arith));
      pushed = λ x.
          let a = total-step (pushed_at x) mid who d0 (with_passes d0 ps) low is in
          let b = total-equal (pushed_at x) (pushed_at x) mid old (omega arith)
          (λ j d lt. ap (times x) (e.same j d (omega arith)).pushed) in
          let was = inv.pushed x in
          omega arith;
    }
