use Rattle.std.proofs.Common.{Option, MatchOption, sym, ◌∙◌, ap, subst}
use Rattle.apsp_model.specs.Least.{HasNoWalk}
use Rattle.apsp_model.specs.Graph.{Graph}
use Rattle.path_book.specs.Book.{kept_paths}
use Rattle.history_engine.specs.Seen.{EngineSeen}
use Rattle.history_engine.specs.Lawful.{AreLawful}
use Rattle.history_engine.specs.Least.{LeastPath, IsLeastPath}
use Rattle.history_engine.proofs.Moments.{lawful_at}
use Rattle.history_engine.proofs.Reading.{no_walk, path_is}
use Rattle.history_engine.proofs.engine.Engine.least.Goals as goal

pub returns-in_err-id : goal.returns-in_err-id
returns-in_err-id c =
    let F : Option LeastPath → Type 0 =
    λ o. MatchOption o (HasNoWalk c.args.self.now.graph c.args.x c.args.y)
    (IsLeastPath c.args.self.now c.args.x c.args.y) in
    let G : Graph → Type 0 = λ g. HasNoWalk g c.args.x c.args.y in
    let lawful : AreLawful c.self.inside.graph c.self.inside.progress.steps (kept_paths c.self.inside.book) =
    lawful_at c.self.inside.graph c.self.inside.progress.steps (kept_paths c.self.inside.book)
    (c.self.invariant.paths (ap (λ (e : EngineSeen). e.spent) c.self.view_is ∙ c.requires.not_spent)) in
    subst F (sym c.from_residual.ensures)
    (subst G (ap (λ (e : EngineSeen). e.graph) c.self.view_is)
    (no_walk c.self.inside.book c.self.inside.graph c.self.inside.progress.steps lawful c.args.x c.args.y
    c.in_err-id.ensures.least))

pub returns : goal.returns
returns c =
    let lawful : AreLawful c.self.inside.graph c.self.inside.progress.steps (kept_paths c.self.inside.book) =
    lawful_at c.self.inside.graph c.self.inside.progress.steps (kept_paths c.self.inside.book)
    (c.self.invariant.paths (ap (λ (e : EngineSeen). e.spent) c.self.view_is ∙ c.requires.not_spent)) in
    path_is c.args.self.now c.self.inside.book c.self.inside.graph c.self.inside.progress.steps
    (ap (λ (e : EngineSeen). e.graph) c.self.view_is) (ap (λ (e : EngineSeen). e.book) c.self.view_is) lawful
    c.args.x c.args.y c.in_ok-id.id c.in_ok-id.ensures.least c.in_ok-id.ensures.lawful c.new.result
    c.new.ensures.book c.new.ensures.id
