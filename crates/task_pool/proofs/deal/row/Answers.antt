use Rattle.std.proofs.Common.{◌≡◌, ℕ, ◌+◌, ◌<◌, ap, sym, ◌∙◌, subst, refl, arith, length, ◌∷◌, [], get_or, List}
use Rattle.crossbeam_deque.specs.Handles.{view, worker_deque, worker_view}
use Rattle.task_pool.specs.declared.deque.Account.{Account}
use Rattle.task_pool.specs.declared.work.WorkerState.{WorkerState}
use Rattle.task_pool.specs.Lists.{times}
use Rattle.task_pool.specs.States.{Thief, Passed, IsEmptyPassOf, AreFitting, IsState, OwnerAlone, took_in}
use Rattle.apsp_model.proofs.Totals.{total-append}
use Rattle.task_pool.proofs.Places.{one_of, at_place, fits_push, fits_new, state_less, same_then, low_up, high_up, same_set, set_or}
use Rattle.task_pool.proofs.deal.row.Goals as goal

pub loop-at-init : goal.loop-at-init
loop-at-init g c =
    let empty = c.in-Ok.ensures.items in
    let len = ap length empty in
    let okd = c.args.states.now.ok.0 in
    let oka = c.in-Ok.all.ok.0 in
    let all_len = c.requires.states.len in record {
      len = omega arith;
      long = omega arith;
      fit = subst (AreFitting c.args.thieves.now) (sym empty)
          (record { few = omega arith; each = λ j t p low. absurd (omega arith) });
      none_taken = λ x. ap (took_in x) empty;
      low = λ j t d low. absurd (omega arith);
      high = λ j t d high low. c.requires.states.each j t d (omega arith);
      same = λ j d low. record { passes = refl; done = refl; pushed = refl };
      took = λ j d low. refl;
    }

pub pass_of-pass-requires : goal.pass_of-pass-requires
pass_of-pass-requires g c =
    let inv = c.loop-at.invariant in
    let at = c.loop-at.at in
    let ok = c.loop-at.states.ok.0 in
    let low : at < length c.loop-at.states.items =
    omega (arith, inv.len, c.len-at-end.ensures, c.loop-at-test.true, c.args.states.now.ok.0, c.requires.states.len)
    in
    let t = one_of c.args.thieves.now at (omega (arith, inv.len)) in
    let d0 = c.index_mut.result.now in
    let i = at_place (IsState (c.args.parts + 1) (get_or c.args.thieves.now at t)) c.loop-at.states.items at d0 d0 low
    c.index_mut.ensures.value (inv.high at t d0 (omega arith) (omega arith)) in
    let p = i.parts_are in
    let some = c.requires.some in
    omega arith

pub loop-at-preserved : goal.loop-at-preserved
loop-at-preserved g c =
    let inv = c.loop-at.invariant in
    let at = c.loop-at.at in
    let ts : List Thief = c.args.thieves.now in
    let items = c.loop-at.states.items in
    let start = c.args.states.now.items in
    let len = inv.len in
    let long = inv.long in
    let ok = c.loop-at.states.ok.0 in
    let low : at < length items =
    omega (arith, c.len-at-end.ensures, c.loop-at-test.true, c.args.states.now.ok.0, c.requires.states.len) in
    let d0 : WorkerState g.row.T.Denot = c.index_mut.result.now in
    let d1 : WorkerState g.row.T.Denot =
    record { owner = c.pass_of-pass.new.owner; passes = d0.passes; done = d0.done; short = d0.short } in
    let is = c.index_mut.ensures.value in
    let e = c.pass_of-pass.ensures in
    let i : (t : Thief) → IsState (c.args.parts + 1) (get_or ts at t) d0 =
    λ t. at_place (IsState (c.args.parts + 1) (get_or ts at t)) items at d0 d0 low is
    (inv.high at t d0 (omega arith) (omega arith)) in
    let p = c.in-Ok-push.ensures.items in
    let all = c.loop-at.all.items in
    let oka = c.loop-at.all.ok.0 in
    let okn = c.push.new.self.ok.0 in
    let at_is : at ≡ length all = omega arith in
    let plen = c.in-Ok-push.ensures.len in
    let pass = c.pass_of-pass.result in record {
      len = len;
      long = omega arith;
      fit = subst (AreFitting ts) (sym p)
          (fits_push ts all pass inv.fit (omega arith)
          (λ t. subst (λ (k : ℕ). IsEmptyPassOf (get_or ts k t) pass) at_is
          (fits_new ts at t pass (worker_deque d0.owner) (i t).deque e.same.1 e.new)));
      none_taken = λ x.
          let a = ap (took_in x) p in
          let b = total-append (λ (q : Passed). times x (view q).took) all (pass ∷ []) in
          let z = inv.none_taken x in
          let n = ap (λ (h : Account). times x h.took) e.new in
          omega arith;
      low = low_up c.args.parts ts items at d1 low inv.low
          (λ t. state_less c.args.parts (get_or ts at t) d0 d1 (i t) e.same.0 e.rest);
      high = λ j t d hi lt. high_up (c.args.parts + 1) ts items at d1 (λ j t d h l. inv.high j t d h (omega arith)) j t
          d hi (omega arith);
      same = λ j d lt. same_set start items at d1 (λ j d l. inv.same j d (omega arith))
          (λ d l. same_then (get_or start at d) d0 d1
          (at_place (OwnerAlone (get_or start at d)) items at d0 d low is (inv.same at d (omega arith))) refl refl
          (ap (λ (h : Account). h.pushed) e.rest)) j d (omega arith);
      took = λ j d lt. set_or (λ (z : WorkerState g.row.T.Denot). (worker_view z.owner).took ≡
          (worker_view (get_or start j d).owner).took) items at j d1 d (omega arith)
          (λ same. subst (λ (k : ℕ). (worker_view d1.owner).took ≡ (worker_view (get_or start k d).owner).took)
          (sym same)
          (ap (λ (h : Account). h.took) e.rest
          ∙ at_place (λ (z : WorkerState g.row.T.Denot). (worker_view z.owner).took ≡
          (worker_view (get_or start at d).owner).took) items at d0 d low is (inv.took at d (omega arith))))
          (λ other. inv.took j d lt);
    }
