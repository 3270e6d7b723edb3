use Rattle.std.proofs.Common.{◌∙◌}
use Rattle.change_feed.specs.Feeds.{state_of}
use Rattle.change_feed.proofs.Celled.{dist_row_shown}
use Rattle.change_feed.proofs.ends.Mirror.dist_row.Goals as goal

pub returns-clause-shows : goal.returns-clause-shows
returns-clause-shows c =
    λ v shows. dist_row_shown v (state_of c.args.self.now) c.args.self.now.tables.vertices c.args.x c.deref.result.now
    shows.0 c.requires shows.1 (c.deref.ensures.value ∙ c.args.self.now.state.dist)
