use Rattle.std.proofs.Common.{◌≡◌, ◌∷◌, [], ◌++◌, Some}
use Rattle.path_book.specs.Book.{kept_paths}
use Rattle.history_engine.proofs.Updating.{CleaningInvariant}
use Rattle.history_engine.proofs.update.clean.Given as goal

abbrev pub invariant-powers : goal.invariant-powers
invariant-powers g l =
    CleaningInvariant l.graph (l.timeline.vertices ++ Some l.v ∷ []) l.fn.done.steps l.fn.done.formed l.fn.done.removed
    (kept_paths l.initial.book) l.power l.progress.steps l.progress.formed l.progress.removed (kept_paths l.book)
    × (l.book.arena.vertices ≡ l.graph.vertices)
