use Rattle.std.proofs.Common.{◌≡◌, ℕ, ◌+◌, ◌-◌, ◌<◌, ap, sym, ◌∙◌, subst, refl, arith, length, length-set, get_or, set, List}
use Rattle.task_pool.specs.declared.work.WorkerState.{WorkerState}
use Rattle.task_pool.specs.Lists.{times}
use Rattle.task_pool.specs.States.{Thief, IsRow, pushed_at, took_in, took_at, took_all}
use Rattle.task_pool.proofs.Places.{below, at_place, set_or, total-step, total-equal, total-plus, with_passes, states_set, states_again}
use Rattle.task_pool.proofs.deal.take_all.Goals as goal

pub take_row-requires-clause-states : goal.take_row-requires-clause-states
take_row-requires-clause-states g c =
    let inv = c.loop-who.invariant in
    let ts : List Thief = c.args.thieves.now in
    let who = c.loop-who.who in
    let len = inv.states.len in
    let test = c.loop-who-test.true in
    let end = c.len-who-end.ensures in
    let oka = c.args.states.now.ok.0 in
    let lena = c.requires.states.len in
    states_set (1024 - c.len.result + who) ts c.loop-who.states.items who c.index_mut.result.now
    c.replace-passes.new.dest (omega arith) c.index_mut.ensures.value inv.states

pub loop-who-preserved : goal.loop-who-preserved
loop-who-preserved g c =
    let inv = c.loop-who.invariant in
    let ts : List Thief = c.args.thieves.now in
    let who = c.loop-who.who in
    let start : List (WorkerState g.row.T.Denot) = c.args.states.now.items in
    let items : List (WorkerState g.row.T.Denot) = c.loop-who.states.items in
    let fin : List (WorkerState g.row.T.Denot) = c.take_row.new.states.items in
    let e = c.take_row.ensures in
    let d0 : WorkerState g.row.T.Denot = c.index_mut.result.now in
    let d1 : WorkerState g.row.T.Denot = with_passes d0 c.replace-passes.new.dest in
    let is = c.index_mut.ensures.value in
    let len = inv.states.len in
    let len2 = e.states.len in
    let ok = c.loop-who.states.ok.0 in
    let okf = c.take_row.new.states.ok.0 in
    let test = c.loop-who-test.true in
    let end = c.len-who-end.ensures in
    let oka = c.args.states.now.ok.0 in
    let lena = c.requires.states.len in
    let mid : List (WorkerState g.row.T.Denot) = set items who d1 in
    let lenm = length-set items who d1 in
    let low : who < length items = omega arith in
    let empty = ap (λ v. v.items) c.replace-passes.ensures.after ∙ c.new.ensures.items in
    let base = 1024 - c.len.result in record {
      states = states_again (base + who + 1) (base + (who + 1)) ts fin (omega arith) e.states;
      rows = λ j d hi lt. subst (λ v. IsRow ts v.items) (sym (e.same j d (omega arith)).passes)
          (set_or (λ (z : WorkerState g.row.T.Denot). IsRow ts z.passes.items) items who j d1 d (omega arith)
          (λ same. absurd (omega arith)) (λ other. inv.rows j d (omega arith) (omega arith)));
      none_left =
          λ j d lt x. ap (λ v. took_in x v.items) (e.same j d (omega arith)).passes
          ∙ set_or (λ (z : WorkerState g.row.T.Denot). took_in x z.passes.items ≡ 0) items who j d1 d (omega arith)
          (λ same. ap (took_in x) empty) (λ other. inv.none_left j d (below j who lt other) x);
      done = λ j d lt. (e.same j d (omega arith)).done
          ∙ set_or (λ (z : WorkerState g.row.T.Denot). z.done ≡ (get_or start j d).done) items who j d1 d (omega arith)
          (λ same. subst (λ (k : ℕ). d1.done ≡ (get_or start k d).done) (sym same)
          (at_place (λ (z : WorkerState g.row.T.Denot). z.done ≡ (get_or start who d).done) items who d0 d low is
          (inv.done who d (omega arith))))
          (λ other. inv.done j d (omega arith));
      took = λ x.
          let pin : WorkerState g.row.T.Denot → ℕ = λ z. took_in x z.passes.items in
          let a = total-plus (took_at x) pin fin in
          let a2 = total-plus (took_at x) pin items in
          let b = e.took x in
          let f = total-equal pin pin fin mid (omega arith)
          (λ j d lt. ap (λ v. took_in x v.items) (e.same j d (omega arith)).passes) in
          let h = total-step (took_at x) items who d0 d1 low is in
          let k = total-step pin items who d0 d1 low is in
          let z = ap (took_in x) empty in
          let v = ap (λ v. took_in x v.items) c.replace-passes.ensures.value in
          let was = inv.took x in
          omega arith;
      pushed = λ x.
          let a = total-equal (pushed_at x) (pushed_at x) fin mid (omega arith)
          (λ j d lt. ap (times x) (e.same j d (omega arith)).pushed) in
          let h = total-step (pushed_at x) items who d0 d1 low is in
          let was = inv.pushed x in
          omega arith;
    }

pub returns-clause-took : goal.returns-clause-took
returns-clause-took g c x =
    let inv = c.loop-who.invariant in
    let items : List (WorkerState g.row.T.Denot) = c.loop-who.states.items in
    let len = inv.states.len in
    let test = c.loop-who-test.false in
    let end = c.len-who-end.ensures in
    let oka = c.args.states.now.ok.0 in
    let lena = c.requires.states.len in
    let a = total-equal (took_at x) (took_all x) items items refl
    (λ j d lt. let z = inv.none_left j d (omega arith) x in omega arith) in
    a ∙ inv.took x
