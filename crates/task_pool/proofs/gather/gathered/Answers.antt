use Rattle.std.proofs.Common.{ap, sym, ◌∙◌, subst, arith, ◌∷◌, [], List, Some, All}
use Rattle.std.proofs.lemmas.List.Elements.{All-pop, All-append}
use Rattle.task_pool.specs.declared.work.WorkerState.{WorkerState}
use Rattle.apsp_model.specs.Totals.{total}
use Rattle.task_pool.specs.Lists.{times}
use Rattle.task_pool.specs.States.{OwnsAll, IsRight, tasks_of, pushed_at, took_at, did_at}
use Rattle.apsp_model.proofs.Totals.{total-append}
use Rattle.task_pool.proofs.Times.{times-append}
use Rattle.task_pool.proofs.Listing.{tasks_of-append}
use Rattle.task_pool.proofs.gather.gathered.Goals as goal

pub answer_all-requires-clause-right : goal.answer_all-requires-clause-right
answer_all-requires-clause-right g c κs within =
    let inv = c.loop-state.invariant in
    let P = IsRight (g.J.Job.gives c.args.job.now) c.args.tasks in
    let a = All-pop (λ (z : WorkerState g.row.J-Out.Denot). All P z.done.items) c.loop-state.states.items
    c.pop.new.self.items (Some c.in-Some.state) c.in-Some.ensures.items inv.rights in
    subst (All P) (sym c.in-Ok-append.ensures.items)
    (All-append P c.loop-state.done.items c.in-Some.state.done.items inv.right a.1)

pub loop-state-preserved : goal.loop-state-preserved
loop-state-preserved g c =
    let inv = c.loop-state.invariant in
    let P = IsRight (g.J.Job.gives c.args.job.now) c.args.tasks in
    let pops = c.in-Some.ensures.items in
    let less : List (WorkerState g.row.J-Out.Denot) = c.pop.new.self.items in
    let state : WorkerState g.row.J-Out.Denot = c.in-Some.state in
    let a = All-pop (λ (z : WorkerState g.row.J-Out.Denot). All P z.done.items) c.loop-state.states.items less
    (Some state) pops inv.rights in
    let b = All-pop OwnsAll c.loop-state.states.items less (Some state) pops inv.own in record {
      own = b.0;
      rights = a.0;
      right = c.in_ok-answer_all.ensures.right;
      sums = λ x low.
          let e = c.in_ok-answer_all.ensures.more x low in
          let p = ap (times x) (ap tasks_of c.in-Ok-append.ensures.items
          ∙ tasks_of-append c.loop-state.done.items state.done.items) in
          let q = times-append x (tasks_of c.loop-state.done.items) (tasks_of state.done.items) in
          let r = c.in-Ok.ensures x in
          let d1 = ap (total (did_at x)) pops in
          let d2 = total-append (did_at x) less (state ∷ []) in
          let p1 = ap (total (pushed_at x)) pops in
          let p2 = total-append (pushed_at x) less (state ∷ []) in
          let t1 = ap (total (took_at x)) pops in
          let t2 = total-append (took_at x) less (state ∷ []) in
          let was = inv.sums x low in
          omega arith;
    }
