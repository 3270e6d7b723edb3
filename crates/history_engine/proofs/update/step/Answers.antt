use Rattle.std.proofs.Common.{ℕ, sym, subst}
use Rattle.apsp_model.specs.Settled.{IsCleaned, IsReady}
use Rattle.apsp_model.specs.Star.{AgreeAway}
use Rattle.path_book.specs.Book.{kept_paths}
use Rattle.path_book.proofs.Kept.{kept_once}
use Rattle.history_engine.proofs.Updating.{local_before, taken_away, done_of}
use Rattle.history_engine.proofs.update.step.Goals as goal

pub settle-requires-clause-ready : goal.settle-requires-clause-ready
settle-requires-clause-ready g c κs within =
    let F : ℕ → Type 0 = λ v. IsReady c.args.graph.now v (kept_paths c.forget_all.new.book) in
    let G : ℕ → Type 0 = λ v. AgreeAway v c.requires.ready.before c.args.graph.now in
    subst F c.in_ok-through.ensures.vertex
    (c.forget_all.ensures.ready c.requires.ready.before c.args.graph.now
    (subst G (sym c.in_ok-through.ensures.vertex) c.requires.ready.same)
    (local_before c.args.v c.args.graph.now c.args.steps (kept_paths c.args.book.now) c.requires.ready))

pub overflow_sub-result : goal.overflow_sub-result
overflow_sub-result g c =
    let F : ℕ → Type 0 = λ v. IsCleaned v (kept_paths c.args.book.now) (kept_paths c.forget_all.new.book) in
    (taken_away c.args.v (kept_paths c.args.book.now) (kept_paths c.forget_all.new.book) c.count_paths-before.result
    c.count_paths-left.result (subst F c.in_ok-through.ensures.vertex c.forget_all.ensures.cleaned)
    c.count_paths-before.ensures.count c.count_paths-left.ensures.count).0

pub returns-clause-done : goal.returns-clause-done
returns-clause-done g c =
    let F : ℕ → Type 0 = λ v. IsCleaned v (kept_paths c.args.book.now) (kept_paths c.forget_all.new.book) in
    done_of c.args.v c.args.graph.now c.args.steps (kept_paths c.args.book.now) (kept_paths c.forget_all.new.book)
    (kept_paths c.settle.new.book) c.in_ok-settled.settled.formed c.in_ok-settled.settled.promoted
    c.count_paths-before.result c.count_paths-left.result
    c.requires.ready (subst F c.in_ok-through.ensures.vertex c.forget_all.ensures.cleaned)
    c.in_ok-settled.ensures.settled (kept_once c.settle.new.book c.settle.ensures.lawful)
    c.count_paths-before.ensures.count c.count_paths-left.ensures.count
