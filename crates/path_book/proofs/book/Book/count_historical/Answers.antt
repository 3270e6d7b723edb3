use Rattle.std.proofs.Common.{subst}
use Rattle.path_book.specs.Book.{HistoricalCount}
use Rattle.path_book.proofs.Readers.{historical_count}
use Rattle.path_book.specs.Layout.{view_of}
use Rattle.path_book.proofs.book.Book.count_historical.Goals as goal

pub returns-clause-count : goal.returns-clause-count
returns-clause-count c =
    subst (λ b. HistoricalCount b c.self.inside.historical) c.self.view_is
    (historical_count (view_of c.self.inside) c.self.invariant.stored.book _ c.self.invariant.stored.historical_count)
