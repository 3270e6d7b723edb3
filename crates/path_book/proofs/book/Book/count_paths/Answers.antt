use Rattle.std.proofs.Common.{subst, ◌+◌}
use Rattle.path_book.specs.Book.{PathsCount}
use Rattle.path_book.proofs.Readers.{paths_count}
use Rattle.path_book.specs.Layout.{view_of}
use Rattle.path_book.proofs.book.Book.count_paths.Goals as goal

pub returns-clause-count : goal.returns-clause-count
returns-clause-count c =
    subst (λ b. PathsCount b (c.self.inside.historical + c.self.inside.pending)) c.self.view_is
    (paths_count (view_of c.self.inside) c.self.invariant.stored.book _ _ c.self.invariant.stored.historical_count
    c.self.invariant.stored.pending_count)
