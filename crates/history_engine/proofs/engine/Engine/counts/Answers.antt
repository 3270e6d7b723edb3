use Rattle.std.proofs.Common.{sym, ap}
use Rattle.history_engine.proofs.Reading.{counts_seen, counts_of}
use Rattle.history_engine.proofs.engine.Engine.counts.Goals as goal

pub returns-clause-seen : goal.returns-clause-seen
returns-clause-seen c =
    counts_seen c.self.inside.book c.args.self.now _ (sym (ap (λ e. e.book) c.self.view_is)) c.number.ensures
    (ap (λ e. e.steps) c.self.view_is) (ap (λ e. e.formed) c.self.view_is) (ap (λ e. e.removed) c.self.view_is)
    c.count_paths.ensures.count c.count_historical.ensures.count

pub returns-clause-counts : goal.returns-clause-counts
returns-clause-counts c = counts_of c.args.self.now _ (returns-clause-seen c)
