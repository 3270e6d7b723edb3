use Rattle.std.proofs.Common.{All}
use Rattle.version_pool.specs.Pooled.{IsReaderOf}
use Rattle.version_pool.proofs.tests.showing.Given as goal

abbrev pub invariant-loop : goal.invariant-loop
invariant-loop l = All (IsReaderOf l.pool) l.readers.items
