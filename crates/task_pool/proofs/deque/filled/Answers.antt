use Rattle.std.proofs.Common.{arith, ap, ◌∙◌, ℕ, List, [], ◌∷◌, ◌++◌, ◌+◌}
use Rattle.task_pool.specs.Shares.{account, ALL_PARTS}
use Rattle.task_pool.proofs.Times.{from_on-snoc}
use Rattle.task_pool.proofs.Steps.{pushes}
use Rattle.task_pool.proofs.deque.filled.Goals as goal

pub push_as-requires-clause-pushes : goal.push_as-requires-clause-pushes
push_as-requires-clause-pushes c = let parts = ap (λ v. v.parts) c.loop-i.invariant.view in pushes _ _ _ (omega arith)

pub loop-i-preserved : goal.loop-i-preserved
loop-i-preserved c =
    let h = c.in-Ok.ensures in
    let inv = c.loop-i.invariant in
    let was = ap (λ v. v.pushed) inv.view in
    let room = inv.room in
    let more = h.same.3 in record {
      flavor = h.same.1 ∙ inv.flavor;
      view = h.rule.0 ∙ (λ k. account ((inv.view k).parts) (((inv.view k).pushed) ++ (c.args.from + c.loop-i.i) ∷ [])
          ((inv.view k).took)) ∙ ap (λ (l : List ℕ). account ALL_PARTS l []) (from_on-snoc c.args.from c.loop-i.i);
      index = h.rule.1 ∙ ap (λ (n : ℕ). n + 1) inv.index;
      room = omega arith;
    }
