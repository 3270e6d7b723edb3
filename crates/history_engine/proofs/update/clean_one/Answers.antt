use Rattle.std.proofs.Common.{◌+◌, ◌∷◌, [], ◌++◌, Some, List, ℕ, subst}
use Rattle.history_engine.specs.Stepping.{UpdateInvariant}
use Rattle.history_engine.specs.Times.{left_from}
use Rattle.path_book.specs.Book.{kept_paths}
use Rattle.history_engine.proofs.Stepping.{cleaning_step}
use Rattle.history_engine.proofs.Updating.{none_cleaned, one_cleaned}
use Rattle.history_engine.proofs.update.clean_one.Goals as goal

pub returns-in_default-clause-done : goal.returns-in_default-clause-done
returns-in_default-clause-done g c = λ e s w.
    let F : List ℕ → Type 0 =
    λ left. UpdateInvariant e s c.args.graph.now left c.args.done.steps c.args.done.formed c.args.done.removed
    (kept_paths c.args.book.now) in
    subst F (none_cleaned c.args.timeline.now.vertices c.args.v c.args.power c.in_default.ensures.cleaned) w

pub returns-clause-done : goal.returns-clause-done
returns-clause-done g c = λ e s w.
    let F : List ℕ → Type 0 =
    λ left. UpdateInvariant e s c.args.graph.now left c.args.done.steps c.args.done.formed c.args.done.removed
    (kept_paths c.args.book.now) in
    cleaning_step e s c.args.graph.now c.in-Some.cleaned
    (left_from (c.args.timeline.now.vertices ++ Some c.args.v ∷ []) (c.args.power + 1)) c.args.done.steps
    c.args.done.formed c.args.done.removed (kept_paths c.args.book.now)
    c.in_ok-more.more.formed c.in_ok-more.more.removed (kept_paths c.clean_in_place.new.book)
    (subst F (one_cleaned c.args.timeline.now.vertices c.args.v c.in-Some.cleaned c.args.power
    c.in-Some.ensures.cleaned) w) c.in_ok-more.ensures.done
