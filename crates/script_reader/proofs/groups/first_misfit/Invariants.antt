use Rattle.std.proofs.Common.{◌≡◌, []}
use Rattle.script_reader.specs.Scan.{words_left}
use Rattle.script_reader.specs.Edges.{first_misfit}
use Rattle.script_reader.proofs.Loops.{misfit_from}
use Rattle.script_reader.proofs.groups.first_misfit.Given as goal

abbrev pub invariant-loop-word : goal.invariant-loop-word
invariant-loop-word l =
    misfit_from l.has_out l.has_in l.word-iterator.place (words_left l.word-iterator) ≡ first_misfit [] l.words.place
    (words_left l.words)
