use Rattle.std.proofs.Common.{false, ◌≡◌, ap, sym, subst, arith, List, All}
use Rattle.task_pool.specs.declared.work.WorkerState.{WorkerState}
use Rattle.task_pool.specs.Lists.{times}
use Rattle.task_pool.specs.States.{Thief, IsRight, tasks_of, did_at, took_all, HasWorked}
use Rattle.task_pool.proofs.Listing.{once-low}
use Rattle.task_pool.proofs.Places.{one_of, total-equal}
use Rattle.task_pool.proofs.gather.bring_back.Goals as goal

pub returns : goal.returns
returns g c =
    let gives = g.J.Job.gives c.args.job.now in
    let fin : List (WorkerState g.row.J-Out.Denot) = c.take_all.new.states.items in
    let old : List (WorkerState g.row.J-Out.Denot) = c.args.states.now.items in
    let e = c.take_all.ensures in
    let ts : List Thief = c.args.thieves.now in
    let lenf = e.states.len in
    let leno = c.requires.states.len in
    let ok = c.args.states.now.ok.0 in
    let okf = c.take_all.new.states.ok.0 in
    let short =
    subst (λ (l : List (WorkerState g.row.J-Out.Denot)). All (λ d. d.short ≡ false) l) c.as_slice.ensures.value
    (c.any_short.ensures c.if-any_short.false) in
    let worked : All (HasWorked gives c.args.tasks) old =
    λ k d low. c.requires.worked k d low (short k d low) in record {
      own = λ k d low. let i = e.states.each k (one_of ts k (omega arith)) d low in (i.flavor, i.parts_are);
      right = λ k d low. subst (λ v. All (IsRight gives c.args.tasks) v.items) (sym (e.done k d (omega arith)))
          (worked k d (omega arith)).right;
      sums = λ x low.
          let a = total-equal (did_at x) (did_at x) fin old (omega arith)
          (λ j d lt. ap (λ v. times x (tasks_of v.items)) (e.done j d (omega arith))) in
          let b = total-equal (took_all x) (did_at x) old old (omega arith) (λ j d lt. (worked j d lt).covers x low) in
          let t = e.took x in
          let p = e.pushed x in
          let q = c.requires.pushed x in
          let one = once-low x c.args.tasks low in
          omega arith;
    }
