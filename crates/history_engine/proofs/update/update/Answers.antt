use Rattle.std.proofs.Common.{ℕ, Bool, List, ◌+◌, ◌∷◌, [], ◌++◌, Some, Option, sym, subst}
use Rattle.std.specs.Prelude.{if◌then◌else◌}
use Rattle.apsp_model.specs.Star.{Star}
use Rattle.apsp_model.specs.Command.{cleaned}
use Rattle.path_book.specs.Book.{kept_paths}
use Rattle.history_engine.specs.Seen.{EngineSeen}
use Rattle.history_engine.specs.Stepping.{UpdateInvariant, StarIsInPlace}
use Rattle.history_engine.specs.declared.update.Progress.{Progress}
use Rattle.history_engine.proofs.Updating.{begun, if_ok}
use Rattle.history_engine.proofs.update.update.Goals as goal

pub returns-then-smooth-clause-done : goal.returns-then-smooth-clause-done
returns-then-smooth-clause-done g c = if_ok
    (λ (p : Progress). (e : EngineSeen) (s : Star)
    → UpdateInvariant e s c.args.graph.now (cleaned (c.reserve.new.self.vertices ++ Some c.args.v ∷ []))
    (c.args.steps + 1) c.in_ok-first.first.formed c.in_ok-first.first.removed (kept_paths c.step.new.book)
    → UpdateInvariant e s c.args.graph.now [] p.steps p.formed p.removed (kept_paths c.clean.new.book))
    (λ (p : Progress). (e : EngineSeen) (s : Star)
    → StarIsInPlace e s c.args.graph.now c.args.smooth c.args.timeline.now.vertices c.args.v c.args.steps
    (kept_paths c.args.book.now) → UpdateInvariant e s c.args.graph.now [] p.steps p.formed p.removed
    (kept_paths c.clean.new.book))
    (λ p done e s b.
    let F : Bool → Type 0 =
    λ x. UpdateInvariant e s c.args.graph.now
    (if x then cleaned (c.args.timeline.now.vertices ++ Some c.args.v ∷ []) else []) (c.args.steps + 1)
    c.in_ok-first.first.formed c.in_ok-first.first.removed (kept_paths c.step.new.book) in
    let G : List (Option ℕ) → Type 0 =
    λ vs. UpdateInvariant e s c.args.graph.now (cleaned (vs ++ Some c.args.v ∷ [])) (c.args.steps + 1)
    c.in_ok-first.first.formed c.in_ok-first.first.removed (kept_paths c.step.new.book) in
    let w = subst F c.if-smooth.true (begun e s c.args.graph.now c.args.smooth c.args.timeline.now.vertices c.args.v
    c.args.steps (kept_paths c.args.book.now) (kept_paths c.step.new.book) c.in_ok-first.first.formed
    c.in_ok-first.first.removed b c.in_ok-first.ensures.done) in
    done e s (subst G (sym c.reserve.ensures.vertices) w))
    c.clean.result c.clean.ensures.done

pub returns-else-smooth-clause-done : goal.returns-else-smooth-clause-done
returns-else-smooth-clause-done g c = λ e s b.
    let F : Bool → Type 0 =
    λ x. UpdateInvariant e s c.args.graph.now
    (if x then cleaned (c.args.timeline.now.vertices ++ Some c.args.v ∷ []) else []) (c.args.steps + 1)
    c.in_ok-first.first.formed c.in_ok-first.first.removed (kept_paths c.step.new.book) in
    subst F c.if-smooth.false (begun e s c.args.graph.now c.args.smooth c.args.timeline.now.vertices c.args.v
    c.args.steps (kept_paths c.args.book.now) (kept_paths c.step.new.book) c.in_ok-first.first.formed
    c.in_ok-first.first.removed b c.in_ok-first.ensures.done)
