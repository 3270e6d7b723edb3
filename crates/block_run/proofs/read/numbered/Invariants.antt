use Rattle.std.proofs.Common.{◌≡◌, ◌++◌, map}
use Rattle.block_run.specs.Reading.{AreNumbered}
use Rattle.block_run.proofs.read.numbered.Given as goal

abbrev pub invariant-loop-reader : goal.invariant-loop-reader
invariant-loop-reader l = record {
  moved : map (λ r. r.reader) l.all.items ++ l.reader-iterator.rest.items ≡ l.fn.readers.items;
  numbered : AreNumbered l.all.items;
}
