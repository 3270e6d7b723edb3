use Rattle.std.proofs.Common.{sym, ◌∙◌}
use Rattle.path_book.proofs.Admitting.{admitted}
use Rattle.path_book.proofs.admit.admit_known.Goals as goal

pub returns-clause-admitted : goal.returns-clause-admitted
returns-clause-admitted c =
    admitted c.args.arena.now c.args.heaps.now c.insert_into.new.self c.args.lists.now c.enter.new.lists c.args.path
    c.requires.lawful c.requires.edge c.requires.known
    c.enter.result (sym c.is_err.ensures.value ∙ c.if-is_err.false) c.enter.ensures.entered c.insert_into.ensures.ok
    c.insert_into.ensures.fits
