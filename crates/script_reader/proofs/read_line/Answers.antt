use Rattle.script_reader.specs.Words.{words_of}
use Rattle.script_reader.proofs.Fitting.{answer_fits}
use Rattle.script_reader.proofs.read_line.Goals as goal

pub returns-clause-fits : goal.returns-clause-fits
returns-clause-fits c =
    answer_fits c.args.context.now (words_of c.args.bytes.now) _ c.requires.vertices c.line_of_words.ensures
