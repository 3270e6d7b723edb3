use Rattle.std.proofs.Common.{ℕ, ◌<◌, slice_index_or, length, sym, subst}
use Rattle.std.proofs.lemmas.List.{get_or_default}
use Rattle.cleanup_tasks.specs.Under.{EdgesAt}
use Rattle.cleanup_tasks.proofs.tasks.EdgesJob.run.Goals as goal

pub levels_from-requires-clause-through : goal.levels_from-requires-clause-through
levels_from-requires-clause-through c =
    let edge : ℕ = slice_index_or c.self.inside.ids.now c.args.task c.index-self-task.result in
    let inside : c.args.task < length c.self.inside.ids.now =
    subst (λ (e : EdgesAt). c.args.task < length e.edges) (sym c.self.view_is) c.requires in
    ((c.self.invariant.exact edge).0 (
      c.args.task,
      inside,
      get_or_default c.self.inside.ids.now c.args.task edge
          c.index-self-task.result inside,
    )).0
