use Rattle.std.proofs.Common.{ap, ◌∙◌}
use Rattle.task_pool.specs.Lists.{times}
use Rattle.task_pool.specs.States.{tasks_of}
use Rattle.task_pool.proofs.Times.{times-snoc}
use Rattle.task_pool.proofs.Listing.{tasks_of-snoc}
use Rattle.task_pool.proofs.work.answer.Goals as goal

pub returns-clause-more : goal.returns-clause-more
returns-clause-more g c x low =
    let e = ap (times x) (ap tasks_of c.in-Ok.ensures.items ∙ tasks_of-snoc c.args.done.now.items _) in
    let s = times-snoc x (tasks_of c.args.done.now.items) c.args.task in
    e ∙ s
