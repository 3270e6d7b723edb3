use Rattle.std.proofs.Common.{◌≡◌, ◌≢◌, length, refl, arith}
use Rattle.std.proofs.lemmas.Bool.Decides.{nat_tests}
use Rattle.script_reader.proofs.Splitting.{no_word_cut, word_cut}
use Rattle.script_reader.proofs.scan.WordsIterator.next.Goals as goal

pub returns-then-is_empty-clause-steps : goal.returns-then-is_empty-clause-steps
returns-then-is_empty-clause-steps c =
    let test = c.is_empty.ensures in
    let yes = c.if-is_empty.true in
    let none : length c.split_at.result.0.now ≡ 0 = grind (arith, nat_tests) in
    no_word_cut c.args.self.now.rest.now _ _ c.split_at.result.1.now _ c.behind_separators-words.ensures
    c.word_len.ensures.len c.split_at.ensures.front none

pub returns-clause-steps : goal.returns-clause-steps
returns-clause-steps c =
    let test = c.is_empty.ensures in
    let no = c.if-is_empty.false in
    let some : length c.split_at.result.0.now ≢ 0 = grind (arith, nat_tests) in (
      word_cut c.args.self.now.rest.now _ _ c.split_at.result.1.now _ c.behind_separators-words.ensures
          c.word_len.ensures.len c.split_at.ensures.front c.split_at.ensures.back some,
      refl,
      refl,
    )
