use Rattle.apsp_model.specs.Settled.{IsReady}
use Rattle.path_book.specs.Book.{kept_paths}
use Rattle.fixup.proofs.Untouched.{star_ready, settled_ready}
use Rattle.fixup.proofs.tests.settle_star.Goals as goal

pub settle_with-requires-clause-ready : goal.settle_with-requires-clause-ready
settle_with-requires-clause-ready g c κs within =
    star_ready c.args.graph.now c.apply.new.self c.args.star.now c.vertex-v.result (kept_paths c.args.book.now)
    c.apply.ensures.after c.vertex-v.ensures.vertex (c.has_none_at.ensures.none c.if-not-has_none_at.false)
    c.requires.ready

pub returns-clause-ready : goal.returns-clause-ready
returns-clause-ready g c =
    let ready : IsReady c.apply.new.self c.vertex-v.result (kept_paths c.args.book.now) =
    star_ready c.args.graph.now c.apply.new.self c.args.star.now c.vertex-v.result (kept_paths c.args.book.now)
    c.apply.ensures.after c.vertex-v.ensures.vertex (c.has_none_at.ensures.none c.if-not-has_none_at.false)
    c.requires.ready in
    settled_ready c.apply.new.self c.vertex-v.result c.args.birth (kept_paths c.args.book.now)
    (kept_paths c.settle_with.new.book) c.in_ok-settled.settled.formed c.in_ok-settled.settled.promoted ready
    c.in_ok-settled.ensures.settled
