use Rattle.std.proofs.Common.{◌++◌, take, ◌∙◌, ap}
use Rattle.std.proofs.lemmas.List.{append_assoc}
use Rattle.cleanup_tasks.specs.Under.{level_at, across}
use Rattle.cleanup_tasks.proofs.Under.{across_more}
use Rattle.cleanup_tasks.proofs.tasks.push_levels.Goals as goal

pub walks-preserved : goal.walks-preserved
walks-preserved c =
    c.in_ok-push_at.ensures ∙ ap (λ xs. c.walks.ids.items ++ level_at xs c.args.at) c.as_slice.ensures.value
    ∙ ap (λ xs. xs ++ level_at c.levels-item.result.items c.args.at) c.walks.invariant
    ∙ append_assoc c.args.ids.now.items (across c.args.at (take c.walks.levels-index c.args.walked.now))
    (level_at c.levels-item.result.items c.args.at)
    ∙ ap (λ xs. c.args.ids.now.items ++ xs)
    (across_more c.args.at c.args.walked.now c.walks.levels-index c.levels-item.result c.walks-test.true
    c.levels-item.is)
