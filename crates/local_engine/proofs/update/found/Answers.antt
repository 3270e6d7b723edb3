use Rattle.std.proofs.Common.{sym, ◌∙◌, subst}
use Rattle.std.proofs.lemmas.Result.{IfOk-weaker}
use Rattle.apsp_model.specs.Graph.{Graph}
use Rattle.apsp_model.specs.Star.{AgreeAway}
use Rattle.apsp_model.specs.Settled.{IsReady}
use Rattle.path_book.specs.Book.{kept_paths}
use Rattle.shortest_math.proofs.ShortestStars.{shortest_is_ready}
use Rattle.local_engine.specs.Kept.{KeepsLocal, CoversShortest}
use Rattle.local_engine.specs.Demoting.{AreOutdone, AreToDemote}
use Rattle.local_engine.proofs.Reading.{settled_is_local, local_covers}
use Rattle.local_engine.proofs.Turns.{to_demote}
use Rattle.local_engine.proofs.update.found.Goals as goal

pub settle-requires-clause-ready : goal.settle-requires-clause-ready
settle-requires-clause-ready g c κs within =
    let r = c.requires.ready in
    subst (λ v. IsReady c.args.graph.now v (kept_paths c.forget_all.new.book)) c.in_ok-through.ensures.vertex
    (c.forget_all.ensures.ready r.before c.args.graph.now
    (subst (λ v. AgreeAway v r.before c.args.graph.now) (sym c.in_ok-through.ensures.vertex) r.same)
    (shortest_is_ready r.before (kept_paths c.args.book.now) r.kept))

pub returns : goal.returns
returns g c =
    let r = c.requires.ready in
    let h = c.args.graph.now in
    let b = c.settle.new.book in
    let ready : IsReady h c.args.v (kept_paths c.forget_all.new.book) =
    subst (λ v. IsReady h v (kept_paths c.forget_all.new.book)) c.in_ok-through.ensures.vertex
    (c.forget_all.ensures.ready r.before h
    (subst (λ v. AgreeAway v r.before h) (sym c.in_ok-through.ensures.vertex) r.same)
    (shortest_is_ready r.before (kept_paths c.args.book.now) r.kept)) in
    let keeps : KeepsLocal h (kept_paths b) =
    settled_is_local h c.args.v c.args.number (kept_paths c.forget_all.new.book) (kept_paths b)
    c.in_ok-settle.field-0.formed c.in_ok-settle.field-0.promoted ready c.in_ok-settle.ensures.settled in
    IfOk-weaker c.outdone.result (λ ids. (g : Graph) → CoversShortest g (kept_paths b) → AreOutdone g b ids.items)
    (λ ids. AreToDemote h b ids.items) (λ ids out. to_demote h b ids.items c.settle.ensures.lawful
    (c.in_ok-settle.ensures.vertices ∙ c.forget_all.ensures.vertices ∙ c.requires.same) keeps
    (out h (local_covers h (kept_paths b) keeps))) c.outdone.ensures.outdone
