use Rattle.std.proofs.Common.{ℕ, sym, subst, arith}
use Rattle.path_book.specs.Book.{kept_paths}
use Rattle.path_book.specs.Through.{IsVictims}
use Rattle.history_engine.proofs.InPlace.{lawful_leasts, in_place}
use Rattle.history_engine.proofs.update.clean_in_place.Goals as goal

pub refresh-requires-clause-victims : goal.refresh-requires-clause-victims
refresh-requires-clause-victims g c =
    let F : ℕ → Type 0 = λ v. IsVictims c.args.book.now v c.in_ok-through.through.ids in
    subst F (sym c.in_ok-through.ensures.vertex) c.in_ok-through.ensures.all

pub refresh-requires-clause-leasts : goal.refresh-requires-clause-leasts
refresh-requires-clause-leasts g c =
    lawful_leasts c.args.graph.now c.args.steps (kept_paths c.args.book.now) c.requires.paths

pub overflow_sub-result : goal.overflow_sub-result
overflow_sub-result g c =
    (in_place c.args.v c.in_ok-through.through.vertex c.args.graph.now c.args.steps c.args.book.now c.refresh.new.book
    c.in_ok-through.through.ids c.ids.result.now c.count_paths-before.result c.count_paths.result c.requires.paths
    c.count_paths-before.ensures.lawful c.refresh.ensures.lawful c.in_ok-through.ensures.vertex c.ids.ensures
    c.in_ok-through.ensures.all c.refresh.ensures.refreshed c.count_paths-before.ensures.count
    c.count_paths.ensures.count).0.enough

pub returns-clause-done : goal.returns-clause-done
returns-clause-done g c =
    (in_place c.args.v c.in_ok-through.through.vertex c.args.graph.now c.args.steps c.args.book.now c.refresh.new.book
    c.in_ok-through.through.ids c.ids.result.now c.count_paths-before.result c.count_paths.result c.requires.paths
    c.count_paths-before.ensures.lawful c.refresh.ensures.lawful c.in_ok-through.ensures.vertex c.ids.ensures
    c.in_ok-through.ensures.all c.refresh.ensures.refreshed c.count_paths-before.ensures.count
    c.count_paths.ensures.count).1

pub returns-clause-formed_few : goal.returns-clause-formed_few
returns-clause-formed_few g c =
    let fit =
    (in_place c.args.v c.in_ok-through.through.vertex c.args.graph.now c.args.steps c.args.book.now
    c.refresh.new.book c.in_ok-through.through.ids c.ids.result.now c.count_paths-before.result c.count_paths.result
    c.requires.paths c.count_paths-before.ensures.lawful c.refresh.ensures.lawful c.in_ok-through.ensures.vertex
    c.ids.ensures c.in_ok-through.ensures.all c.refresh.ensures.refreshed c.count_paths-before.ensures.count
    c.count_paths.ensures.count).0 in
    omega (arith, fit.formed_few, c.count_paths.ensures.most)

pub returns-clause-removed_few : goal.returns-clause-removed_few
returns-clause-removed_few g c =
    let fit =
    (in_place c.args.v c.in_ok-through.through.vertex c.args.graph.now c.args.steps c.args.book.now
    c.refresh.new.book c.in_ok-through.through.ids c.ids.result.now c.count_paths-before.result c.count_paths.result
    c.requires.paths c.count_paths-before.ensures.lawful c.refresh.ensures.lawful c.in_ok-through.ensures.vertex
    c.ids.ensures c.in_ok-through.ensures.all c.refresh.ensures.refreshed c.count_paths-before.ensures.count
    c.count_paths.ensures.count).0 in
    omega (arith, fit.removed_few, c.count_paths-before.ensures.most)
