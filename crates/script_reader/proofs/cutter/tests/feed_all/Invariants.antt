use Rattle.std.proofs.Common.{◌≡◌, false}
use Rattle.script_reader.proofs.cutter.tests.feed_all.Given as goal

abbrev pub invariant-pieces : goal.invariant-pieces
invariant-pieces l = l.cutter.whole ≡ false
