use Rattle.std.proofs.Common.{◌≡◌, ◌≢◌, sym, ◌∙◌, ap}
use Rattle.std.specs.Ordering.{nat_cmp}
use Rattle.std.specs.Cmp.Lexicographic.{slice_cmp}
use Rattle.path_arena.specs.Arena.{list_of}
use Rattle.path_arena.proofs.Steps.{BothStep, both_step, by_first, apart_from_ne, same_from_ne, slice_cmp_same}
use Rattle.path_arena.proofs.arena.Arena.compare_lists.Goals as goal

pub returns-then-left-right : goal.returns-then-left-right
returns-then-left-right c =
    let apart : c.record-left.result.now.first ≢ c.record-right.result.now.first = c.if-left-right.true in
    c.cmp.ensures ∙ sym (by_first _ _ _ _ c.record-left.ensures.describes.first c.record-right.ensures.describes.first
    apart) ∙ sym c.loop-a.invariant.same

step : (c : goal.After-b-in-loop-a-1) → BothStep c.args.self.now c.loop-a.a c.loop-a.b c.record-left.result.now
    c.record-right.result.now
step c =
    both_step c.args.self.now c.loop-a.a c.loop-a.b c.record-left.ensures.lawful c.loop-a.invariant.first
    c.loop-a.invariant.second c.loop-a.invariant.alike
    (apart_from_ne _ _ _ c.ne.ensures c.loop-a-test.true) _ _ c.record-left.ensures.describes
    c.record-right.ensures.describes c.if-left-right.false

pub loop-a-smaller : goal.loop-a-smaller
loop-a-smaller c = (step c).shorter

pub loop-a-preserved : goal.loop-a-preserved
loop-a-preserved c = record {
  first = (step c).first;
  second = (step c).second;
  alike = (step c).alike;
  same = c.loop-a.invariant.same ∙ (step c).same;
}

pub returns : goal.returns
returns c =
    let same : c.loop-a.a ≡ c.loop-a.b = same_from_ne _ _ _ c.ne.ensures c.loop-a-test.false in
    sym (c.loop-a.invariant.same ∙ ap (λ b. slice_cmp nat_cmp (list_of c.args.self.now c.loop-a.a)
    (list_of c.args.self.now b)) (sym same) ∙ slice_cmp_same (list_of c.args.self.now c.loop-a.a))
