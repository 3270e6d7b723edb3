use Rattle.path_book.proofs.Kept.{kept_live}
use Rattle.cleanup_tasks.proofs.tests.is_new.Goals as goal

pub returns-in-None-clause-new : goal.returns-in-None-clause-new
returns-in-None-clause-new c =
    λ _ id live same. c.in-None.ensures.birth ((kept_live c.args.book.now c.args.list.now).1 (id, live, same))
