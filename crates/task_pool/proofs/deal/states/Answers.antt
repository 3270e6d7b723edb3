use Rattle.std.proofs.Common.{◌≡◌, ℕ, ◌+◌, ◌-◌, ◌*◌, ◌/◌, ◌<◌, ◌≤◌, ap, ◌∙◌, refl, arith, suc, suc-mul, le_trans, div-mul-le_self, ◌∷◌, [], List}
use Rattle.std.proofs.lemmas.Nat.{le-div}
use Rattle.std.proofs.lemmas.List.Elements.{All-push}
use Rattle.std.proofs.Math.Nat.{mul-div_cancel_left}
use Rattle.task_pool.specs.declared.deque.Account.{Account}
use Rattle.task_pool.specs.declared.work.WorkerState.{WorkerState}
use Rattle.apsp_model.specs.Totals.{total}
use Rattle.task_pool.specs.Lists.{times, once_below}
use Rattle.task_pool.specs.States.{OwnsAll, IsFresh, pushed_at, took_in}
use Rattle.apsp_model.proofs.Totals.{total-append}
use Rattle.task_pool.proofs.Listing.{times-range}
use Rattle.task_pool.proofs.deal.states.Goals as goal

rises : (a t w : ℕ) → 0 < w → a * t / w ≤ (a + 1) * t / w
rises a t w some =
    let s : a + 1 ≡ suc a = omega arith in
    let m : (a + 1) * t ≡ a * t + t = ap (λ (k : ℕ). k * t) s ∙ suc-mul a t in
    le-div (a * t / w) ((a + 1) * t) w some (le_trans (div-mul-le_self (a * t) w) (omega arith))

pub loop-who-preserved : goal.loop-who-preserved
loop-who-preserved g c =
    let inv = c.loop-who.invariant in
    let who = c.loop-who.who in
    let p = c.in-Ok-push.ensures.items in
    let f = c.in-Ok-filled.ensures in
    let all : List (WorkerState g.row.T.Denot) = c.loop-who.all.items in
    let d1 : WorkerState g.row.T.Denot =
    record { owner = c.in-Ok-filled.owner; passes = c.new.result; done = c.new-in-loop-who.result; short = _ } in
    let empty = c.new.ensures.items in
    let bare = c.new-in-loop-who.ensures.items in
    let parts = ap (λ (h : Account). h.parts) f.1 in
    let some = c.requires.0 in
    let up = rises who c.args.tasks c.args.workers (omega arith) in
    let from = inv.from in
    let len = c.in-Ok-push.ensures.len in
    let was_len = inv.len in record {
      len = omega arith;
      own = rw p (All-push OwnsAll all d1 inv.own (f.0, parts));
      fresh = rw p (All-push IsFresh all d1 inv.fresh (
        (λ x. let t = ap (λ (h : Account). times x h.took) f.1 in let e = ap (took_in x) empty in omega arith),
        bare,
      ));
      from = refl;
      pushed = λ x.
          let a = ap (total (pushed_at x)) p in
          let b = total-append (pushed_at x) all (d1 ∷ []) in
          let t = ap (λ (h : Account). times x h.pushed) f.1 in
          let u : ℕ = (who + 1) * c.args.tasks / c.args.workers in
          let r = times-range x c.loop-who.from (u - c.loop-who.from) in
          let n : c.loop-who.from + (u - c.loop-who.from) ≡ u = omega arith in
          let o = ap (once_below x) n in
          let was = inv.pushed x in
          omega arith;
    }

pub returns-clause-pushed : goal.returns-clause-pushed
returns-clause-pushed g c x =
    let inv = c.loop-who.invariant in
    let some = c.requires.0 in
    let test = c.loop-who-test.false in
    let end = c.loop-who.auto.who-end in
    let who_is : c.loop-who.who ≡ c.args.workers = omega arith in
    inv.pushed x ∙ ap (once_below x) (inv.from
    ∙ (ap (λ (k : ℕ). k * c.args.tasks / c.args.workers) who_is ∙ mul-div_cancel_left c.args.tasks (omega arith)))
