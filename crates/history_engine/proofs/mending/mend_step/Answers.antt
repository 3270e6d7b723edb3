use Rattle.std.proofs.Common.{ℕ, subst}
use Rattle.apsp_model.specs.Settled.{AreSingles}
use Rattle.path_book.specs.Book.{kept_paths}
use Rattle.path_book.proofs.Kept.{kept_once}
use Rattle.history_engine.proofs.Mends.{opening_alone, mend_done_of}
use Rattle.history_engine.proofs.mending.mend_step.Goals as goal

pub settle_whole-requires-clause-alone : goal.settle_whole-requires-clause-alone
settle_whole-requires-clause-alone g c κs within =
    let F : ℕ → Type 0 = λ n. AreSingles n (kept_paths c.in_ok-book.book) in
    subst F c.vertices.ensures.vertices (opening_alone c.in_ok-book.book c.vertices.result c.in_ok-book.ensures.lawful
    c.in_ok-book.ensures.opening)

pub returns-clause-done : goal.returns-clause-done
returns-clause-done g c =
    let F : ℕ → Type 0 = λ n. AreSingles n (kept_paths c.in_ok-book.book) in
    mend_done_of c.args.graph.now c.args.steps (kept_paths c.in_ok-book.book) (kept_paths c.settle_whole.new.book)
    c.in_ok-settled.settled.formed c.in_ok-settled.settled.promoted
    (subst F c.vertices.ensures.vertices (opening_alone c.in_ok-book.book c.vertices.result c.in_ok-book.ensures.lawful
    c.in_ok-book.ensures.opening))
    c.in_ok-settled.ensures.settled (kept_once c.settle_whole.new.book c.settle_whole.ensures.lawful)
