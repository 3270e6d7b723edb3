use Rattle.std.proofs.Common.{◌≡◌}
use Rattle.script_reader.specs.declared.Group.TheVariants.{Out}
use Rattle.script_reader.specs.Scan.{words_left}
use Rattle.script_reader.specs.Edges.{star_with_groups}
use Rattle.script_reader.proofs.groups.set_groups.Given as goal

abbrev pub invariant-loop-word : goal.invariant-loop-word
invariant-loop-word l =
    star_with_groups l.star l.group l.word-iterator.place (words_left l.word-iterator) ≡ star_with_groups l.initial.star
    Out l.words.place (words_left l.words)
