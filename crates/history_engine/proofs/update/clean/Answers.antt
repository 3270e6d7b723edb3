use Rattle.std.proofs.Common.{ℕ, ◌≡◌, ◌+◌, ◌≤◌, ◌∷◌, [], ◌++◌, Some, sym, ◌∙◌, arith, subst}
use Rattle.path_book.specs.Book.{kept_paths}
use Rattle.history_engine.proofs.Updating.{CleaningInvariant, cleaning_starts, cleaning_more, cleaning_done}
use Rattle.history_engine.proofs.update.clean.Goals as goal

pub powers-init : goal.powers-init
powers-init g c = (
  cleaning_starts c.args.graph.now (c.args.timeline.now.vertices ++ Some c.args.v ∷ []) c.args.done.steps
      c.args.done.formed c.args.done.removed (kept_paths c.args.book.now) c.requires.paths c.requires.few_formed
      c.requires.few_removed,
  c.requires.book_size,
)

pub clean_one-requires-clause-paths : goal.clean_one-requires-clause-paths
clean_one-requires-clause-paths g c κs within = c.powers.invariant.0.lawful

pub clean_one-requires-clause-book_size : goal.clean_one-requires-clause-book_size
clean_one-requires-clause-book_size g c κs within = c.powers.invariant.1

pub clean_one-requires-clause-few_steps : goal.clean_one-requires-clause-few_steps
clean_one-requires-clause-few_steps g c κs within =
    let few : c.powers.progress.steps ≤ c.args.done.steps + c.powers.power = c.powers.invariant.0.steps_few in
    omega (arith, few, c.powers-test.true, c.requires.few_steps)

pub clean_one-requires-clause-few_formed : goal.clean_one-requires-clause-few_formed
clean_one-requires-clause-few_formed g c κs within = c.powers.invariant.0.formed_few

pub clean_one-requires-clause-few_removed : goal.clean_one-requires-clause-few_removed
clean_one-requires-clause-few_removed g c κs within = c.powers.invariant.0.removed_few

pub powers-preserved : goal.powers-preserved
powers-preserved g c = (
  cleaning_more c.args.graph.now (c.args.timeline.now.vertices ++ Some c.args.v ∷ []) c.args.done.steps
      c.args.done.formed c.args.done.removed (kept_paths c.args.book.now) c.powers.power
      c.powers.progress.steps c.powers.progress.formed c.powers.progress.removed (kept_paths c.powers.book)
      c.in_ok-progress.progress.steps c.in_ok-progress.progress.formed c.in_ok-progress.progress.removed
      (kept_paths c.clean_one.new.book)
      c.powers.invariant.0 c.in_ok-progress.ensures.done c.in_ok-progress.ensures.paths
      c.in_ok-progress.ensures.steps_few c.in_ok-progress.ensures.steps_more c.in_ok-progress.ensures.formed_few
      c.in_ok-progress.ensures.removed_few,
  c.in_ok-progress.ensures.book_size ∙ c.powers.invariant.1,
)

pub returns-clause-done : goal.returns-clause-done
returns-clause-done g c =
    let all : c.powers.power ≡ 40 =
    (let most : c.powers.power ≤ 40 = c.powers.auto.power-end in omega (arith, most, c.powers-test.false)) in
    let F : ℕ → Type 0 =
    λ i. CleaningInvariant c.args.graph.now (c.args.timeline.now.vertices ++ Some c.args.v ∷ []) c.args.done.steps
    c.args.done.formed c.args.done.removed (kept_paths c.args.book.now) i c.powers.progress.steps
    c.powers.progress.formed c.powers.progress.removed (kept_paths c.powers.book) in
    cleaning_done c.args.graph.now c.args.timeline.now.vertices c.args.v c.args.done.steps c.args.done.formed
    c.args.done.removed (kept_paths c.args.book.now) c.powers.progress.steps c.powers.progress.formed
    c.powers.progress.removed (kept_paths c.powers.book) c.requires.few_updates (subst F all c.powers.invariant.0)

pub returns-clause-steps_few : goal.returns-clause-steps_few
returns-clause-steps_few g c =
    let few : c.powers.progress.steps ≤ c.args.done.steps + c.powers.power = c.powers.invariant.0.steps_few in
    let most : c.powers.power ≤ 40 = c.powers.auto.power-end in
    let all : c.powers.progress.steps ≤ c.args.done.steps + 40 = omega (arith, few, most) in
    all

pub returns-clause-steps_more : goal.returns-clause-steps_more
returns-clause-steps_more g c = c.powers.invariant.0.steps_more

pub returns-clause-book_size : goal.returns-clause-book_size
returns-clause-book_size g c = c.powers.invariant.1 ∙ sym c.requires.book_size
