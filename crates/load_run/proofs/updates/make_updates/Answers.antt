use Rattle.std.proofs.Common.{◌≡◌, suc, ◌+◌, ◌*◌, refl, sym, ap, subst, ◌∙◌, arith}
use Rattle.apsp_model.specs.Graph.{Graph}
use Rattle.apsp_model.specs.Star.{Star}
use Rattle.history_engine.specs.Advance.{Stands}
use Rattle.load_run.specs.Draws.{drawn, drawn_star, draws_of_star, drawn_updates}
use Rattle.load_run.proofs.Making.{HasMade, made_none, made_more}
use Rattle.load_run.proofs.updates.make_updates.Goals as goal

pub updates-init : goal.updates-init
updates-init g c = made_none _ _ _ _ c.requires.fresh refl c.requires.plain c.new-draws.ensures

pub star-requires-clause-same : goal.star-requires-clause-same
star-requires-clause-same g c κs lives =
    ap (λ (s : Star). s.vertices) c.in_ok-next.ensures.star ∙ c.vertices-n.ensures.vertices
    ∙ ap (λ (g : Graph). g.vertices) c.requires.fresh.outline.graph ∙ sym c.updates.invariant.present

pub star-requires-clause-few : goal.star-requires-clause-few
star-requires-clause-few g c =
    omega (arith, c.updates.invariant.size, c.updates-test.true, c.vertices-n.ensures.range.most)

pub updates-preserved : goal.updates-preserved
updates-preserved g c =
    let n = c.args.engine.now.opening in
    let one : suc c.updates.counter ≡ c.updates.counter + 1 = omega arith in
    let size : c.vertices-n.result ≡ n =
    c.vertices-n.ensures.vertices ∙ ap (λ (g : Graph). g.vertices) c.requires.fresh.outline.graph in
    subst (λ k. HasMade n c.args.seed k c.star.new.self c.draw_star.new.draws) one
    (made_more n c.args.seed c.updates.counter c.updates.engine c.star.new.self _ c.updates.draws
    c.draw_star.new.draws c.updates.invariant
    (c.in_ok-next.ensures.star ∙ ap (λ k. drawn_star k c.updates.draws) size)
    (c.in_ok-next.ensures.place ∙ ap (λ k. drawn c.updates.draws (draws_of_star k)) size) c.in-Ok.ensures.advance
    (c.law_advance.ensures.stands _ _ _ _ c.in-Ok.ensures.advance))

pub returns-clause-stands : goal.returns-clause-stands
returns-clause-stands g c =
    let n = c.args.engine.now.opening in
    let end : c.updates.counter ≡ 2 * n =
    omega (
      arith,
      c.updates-test.false,
      c.updates.auto.counter-end,
      c.vertices-n.ensures.vertices,
      ap (λ (g : Graph). g.vertices) c.requires.fresh.outline.graph,
    ) in
    subst (λ k. Stands c.updates.engine (drawn_updates n c.args.seed k)) end c.updates.invariant.stands

pub returns-clause-opening : goal.returns-clause-opening
returns-clause-opening g c = c.updates.invariant.opening

pub returns-clause-present : goal.returns-clause-present
returns-clause-present g c = c.updates.invariant.present

pub returns-clause-plain : goal.returns-clause-plain
returns-clause-plain g c = c.updates.invariant.smooth
