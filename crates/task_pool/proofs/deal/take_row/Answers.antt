use Rattle.std.proofs.Common.{◌≡◌, ℕ, ◌+◌, ◌<◌, ap, sym, ◌∙◌, subst, refl, arith, length, length-append, ◌++◌, ◌∷◌, [], get_or, List}
use Rattle.crossbeam_deque.specs.Handles.{view, IsPassOf, worker_view}
use Rattle.task_pool.specs.declared.deque.Account.{Account}
use Rattle.task_pool.specs.declared.work.WorkerState.{WorkerState}
use Rattle.task_pool.specs.Lists.{times}
use Rattle.task_pool.specs.States.{Thief, Passed, IsEmptyPassOf, IsState, OwnerAlone, took_in, took_at}
use Rattle.apsp_model.proofs.Totals.{total-append}
use Rattle.task_pool.proofs.Times.{times-append}
use Rattle.task_pool.proofs.Places.{one_of, nil_right, at_place, fits_pop, state_more, same_then, low_down, high_down, same_set, total-step}
use Rattle.task_pool.proofs.deal.take_row.Goals as goal

pub loop-pass-init : goal.loop-pass-init
loop-pass-init g c =
    let okd = c.args.states.now.ok.0 in
    let okp = c.args.passes.ok.0 in
    let row = c.requires.row.0 in
    let all_len = c.requires.states.len in record {
      len = omega arith;
      fit = c.requires.row.1;
      low = λ j t d low. c.requires.states.each j t d (omega arith);
      high = λ j t d high low. absurd (omega arith);
      same = λ j d low. record { passes = refl; done = refl; pushed = refl };
      took = λ x. refl;
    }

pub take_in-requires : goal.take_in-requires
take_in-requires g c =
    let inv = c.loop-pass.invariant in
    let ts : List Thief = c.args.thieves.now in
    let k = c.len-at.result in
    let items = c.loop-pass.states.items in
    let ok = c.loop-pass.states.ok.0 in
    let okp = c.loop-pass.passes.ok.0 in
    let okl = c.pop.new.self.ok.0 in
    let pops = c.in-Some.ensures.items in
    let plen = ap length pops in
    let more = length-append c.pop.new.self.items (c.in-Some.pass ∷ []) in
    let f = fits_pop ts c.loop-pass.passes.items c.pop.new.self.items c.in-Some.pass pops inv.fit in
    let room = f.1 in
    let len = inv.len in
    let k_is : length c.pop.new.self.items ≡ k = omega (arith, c.len-at.ensures) in
    let low : k < length items = omega arith in
    let t = one_of ts k (omega arith) in
    let d0 : WorkerState g.row.T.Denot = c.index_mut.result.now in
    let i = at_place (IsState c.args.parts (get_or ts k t)) items k d0 d0 low c.index_mut.ensures.value
    (inv.low k t d0 (omega arith)) in
    let fit = subst (λ (n : ℕ). IsEmptyPassOf (get_or ts n t) c.in-Some.pass) k_is (f.2 t) in
    let parts = i.parts_are in
    let some = c.requires.some in
    (subst (λ z. IsPassOf z c.in-Some.pass) (sym i.deque) fit.0, omega arith)

pub loop-pass-preserved : goal.loop-pass-preserved
loop-pass-preserved g c =
    let inv = c.loop-pass.invariant in
    let ts : List Thief = c.args.thieves.now in
    let k = c.len-at.result in
    let items = c.loop-pass.states.items in
    let start = c.args.states.now.items in
    let ok = c.loop-pass.states.ok.0 in
    let okp = c.loop-pass.passes.ok.0 in
    let okl = c.pop.new.self.ok.0 in
    let pops = c.in-Some.ensures.items in
    let plen = ap length pops in
    let pass = c.in-Some.pass in
    let less = c.pop.new.self.items in
    let more = length-append less (pass ∷ []) in
    let f = fits_pop ts c.loop-pass.passes.items less pass pops inv.fit in
    let room = f.1 in
    let len = inv.len in
    let k_is : length less ≡ k = omega (arith, c.len-at.ensures) in
    let low : k < length items = omega arith in
    let d0 : WorkerState g.row.T.Denot = c.index_mut.result.now in
    let d1 : WorkerState g.row.T.Denot =
    record { owner = c.take_in.new.owner; passes = d0.passes; done = d0.done; short = d0.short } in
    let is = c.index_mut.ensures.value in
    let e = c.take_in.ensures in
    let fit : (t : Thief) → IsEmptyPassOf (get_or ts k t) pass =
    λ t. subst (λ (n : ℕ). IsEmptyPassOf (get_or ts n t) pass) k_is (f.2 t) in
    let i : (t : Thief) → IsState c.args.parts (get_or ts k t) d0 =
    λ t. at_place (IsState c.args.parts (get_or ts k t)) items k d0 d0 low is (inv.low k t d0 (omega arith)) in
    let t0 = one_of ts k (omega arith) in
    let pushed =
    ap (λ (h : Account). h.pushed) e.both
    ∙ (ap (λ (l : List ℕ). (worker_view d0.owner).pushed ++ l) (fit t0).2 ∙ nil_right (worker_view d0.owner).pushed)
    in record {
      len = len;
      fit = f.0;
      low = λ j t d l. low_down c.args.parts ts items k d1 low (λ j t d l. inv.low j t d (omega arith)) j t d
          (omega arith);
      high = λ j t d hi lt. high_down (c.args.parts + 1) ts items k d1
          (λ j t d h l. inv.high j t d (omega arith) (omega arith))
          (λ t. state_more c.args.parts (get_or ts k t) d0 d1 (view pass) (i t) e.same (fit t).1 e.both) j t d
          (omega arith) (omega arith);
      same = λ j d lt. same_set start items k d1 (λ j d l. inv.same j d (omega arith))
          (λ d l. same_then (get_or start k d) d0 d1
          (at_place (OwnerAlone (get_or start k d)) items k d0 d low is (inv.same k d (omega arith))) refl refl pushed)
          j d (omega arith);
      took = λ x.
          let s = total-step (took_at x) items k d0 d1 low is in
          let a = ap (λ (h : Account). times x h.took) e.both in
          let b = times-append x (worker_view d0.owner).took (view pass).took in
          let p = ap (took_in x) pops in
          let q = total-append (λ (z : Passed). times x (view z).took) less (pass ∷ []) in
          let was = inv.took x in
          omega arith;
    }

pub returns-clause-states : goal.returns-clause-states
returns-clause-states g c =
    let inv = c.loop-pass.invariant in
    let len = inv.len in
    let ok = c.loop-pass.states.ok.0 in
    let none_left = c.in_default.ensures.cases in record {
      len = omega arith;
      each = λ j t d low. inv.high j t d (omega arith) (omega arith);
    }
