use Rattle.std.proofs.Common.{◌≡◌, ◌++◌, ◌∙◌, sym, ap, subst, arith, OnOk}
use Rattle.std.proofs.lemmas.List.{append-nil}
use Rattle.cleanup_tasks.specs.Under.{paths_of_level}
use Rattle.cleanup_tasks.proofs.Under.{level_is, level_none}
use Rattle.cleanup_tasks.proofs.tasks.push_at.Goals as goal

pub returns-then-at-levels : goal.returns-then-at-levels
returns-then-at-levels c =
    subst (λ xs. OnOk c.push_level.result (c.push_level.new.ids.items ≡ c.args.ids.now.items ++ xs))
    (sym (level_is c.args.levels.now c.args.at c.index-levels-at.result c.if-at-levels.true
    ∙ ap paths_of_level (sym c.index-levels-at.is))) c.push_level.ensures

pub returns : goal.returns
returns c =
    sym (ap (λ xs. c.args.ids.now.items ++ xs)
    (level_none c.args.levels.now c.args.at (omega (arith, c.if-at-levels.false))) ∙ append-nil c.args.ids.now.items)
