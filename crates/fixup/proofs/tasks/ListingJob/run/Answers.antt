use Rattle.std.proofs.Common.{◌<◌, length, sym, subst}
use Rattle.fixup.specs.Listing.{Class}
use Rattle.fixup.proofs.Adding.{task_listed}
use Rattle.fixup.proofs.tasks.ListingJob.run.Goals as goal

pub returns : goal.returns
returns c =
    task_listed c.args.self.now c.self.inside.book.now c.self.inside.winners.now c.args.task c.index-self-task.result
    c.new-joins.result.items c.list_winner.new.joins.items c.self.view_is
    (subst (λ (s : Class). c.args.task < length s.winners) (sym c.self.view_is) c.requires) c.new-joins.ensures.items
    c.in_ok-list_winner.ensures.listed
