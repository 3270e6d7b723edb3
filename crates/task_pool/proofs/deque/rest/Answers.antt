use Rattle.std.proofs.Common.{arith, ap, ◌∙◌, [], ◌∷◌}
use Rattle.crossbeam_deque.specs.Handles.{worker_view}
use Rattle.task_pool.specs.Lists.{times}
use Rattle.task_pool.proofs.Times.{times-append}
use Rattle.task_pool.proofs.deque.rest.Goals as goal

pub loop-task-preserved : goal.loop-task-preserved
loop-task-preserved c = let h = c.in-Some.ensures in let p = c.in_ok-push.ensures in
    let inv = c.loop-task.invariant in
    let took = ap (λ v. v.took) h.took in record {
      flavor = h.same.1 ∙ inv.flavor;
      parts = ap (λ v. v.parts) h.took ∙ inv.parts;
      pushed = ap (λ v. v.pushed) h.took ∙ inv.pushed;
      took = λ x.
          let a = ap (times x) took in
          let b = times-append x (worker_view c.loop-task.owner).took (c.in-Some.task ∷ []) in
          let d = ap (times x) p.items in
          let e = times-append x c.loop-task.all.items (c.in-Some.task ∷ []) in
          let f = inv.took x in
          omega arith;
    }
