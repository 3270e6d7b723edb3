use Rattle.std.proofs.Common.{sym, subst, ap, ◌∙◌}
use Rattle.apsp_model.specs.Graph.{Graph}
use Rattle.history_engine.specs.Advance.{Stands}
use Rattle.load_run.specs.Draws.{load_updates}
use Rattle.load_run.proofs.Making.{report_of}
use Rattle.load_run.proofs.run_load.Goals as goal

pub fill-requires-clause-same : goal.fill-requires-clause-same
fill-requires-clause-same g c =
    ap (λ (h : Graph). h.vertices) c.in-Ok-new.ensures.graph
    ∙ sym (c.in_ok-make_updates.ensures.present ∙ c.in-Ok.ensures.opening)

pub returns : goal.returns
returns g c =
    let opening = c.in-Ok.ensures.opening in
    let stands =
    subst (λ k. Stands c.make_updates.new.engine (load_updates k c.args.seed)) opening
    c.in_ok-make_updates.ensures.stands in
    report_of _ _ _ _ _ _ _ _ (c.in_ok-make_updates.ensures.opening ∙ opening) c.in_ok-make_updates.ensures.plain stands
    (c.counts-counts.ensures.counts _ stands) c.counts-counts.ensures.seen.updates c.fill.ensures.graph
    c.fill.ensures.number c.in_ok-stated.ensures.stated c.count_distances-distances.ensures
