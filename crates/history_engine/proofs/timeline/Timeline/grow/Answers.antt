use Rattle.std.proofs.Common.{ℕ, ◌≡◌, ◌<◌, ◌++◌, ◌∷◌, [], List, Option, Some, None, slice_get, slice_index, vec_len, ap, ◌∙◌, sym, subst, arith}
use Rattle.history_engine.specs.Room.{Times}
use Rattle.history_engine.specs.Times.{IsLatestUpdate}
use Rattle.history_engine.proofs.Cleaning.{star_before}
use Rattle.history_engine.proofs.Widening.{times_grown}
use Rattle.history_engine.proofs.timeline.Timeline.grow.Goals as goal

pub invariant_of-self-2 : goal.invariant_of-self-2
invariant_of-self-2 c =
    let old = c.deref.result.now in
    let vs = c.self.inside.vertices.items in
    let items : c.push_reserved.new.self.items ≡ vs ++ None ∷ [] =
    c.push_reserved.ensures.items ∙ ap (λ (xs : List (Option ℕ)). xs ++ None ∷ []) c.reserve.ensures.items in
    record {
      latest = λ v l. subst (λ (xs : List (Option ℕ)). IsLatestUpdate xs v (slice_index c.in_ok-latest.latest.items v))
          (sym items)
          (times_grown vs old c.in_ok-latest.latest.items
          (λ v l. subst (λ (xs : List ℕ). IsLatestUpdate vs v (slice_index xs v)) (sym c.deref.ensures.value)
          (c.self.invariant.latest v (omega (arith, l, c.deref.ensures.len))))
          (λ s v at. let m : v < vec_len c.self.inside.latest = c.self.invariant.inside s v at in
          omega (arith, m, c.deref.ensures.len))
          c.in_ok-latest.ensures.old c.in_ok-latest.ensures.new v);
      inside = λ s v at.
          let m : v < vec_len c.self.inside.latest =
          c.self.invariant.inside s v
          (star_before vs s v (subst (λ (xs : List (Option ℕ)). slice_get xs s ≡ Some (Some v)) items at)) in
          omega (arith, m, c.requires.more, c.in_ok-latest.ensures.size, ap (λ (t : Times). t.size) c.self.view_is);
    }
