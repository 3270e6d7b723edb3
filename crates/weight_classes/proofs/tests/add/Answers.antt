use Rattle.path_arena.specs.Arena.{edge_path}
use Rattle.weight_classes.proofs.Fresh.{fresh_in}
use Rattle.weight_classes.proofs.tests.add.Goals as goal

pub push-requires-clause-fits : goal.push-requires-clause-fits
push-requires-clause-fits c =
    (fresh_in c.args.classes.now c.args.arena.now c.edge.new.self c.in_ok-id.id
    (edge_path c.args.arena.now c.args.u c.args.v c.args.w 1) c.requires.fits c.in_ok-id.ensures.fresh
    c.in_ok-id.ensures.added).fits

pub push-requires-clause-live : goal.push-requires-clause-live
push-requires-clause-live c =
    (fresh_in c.args.classes.now c.args.arena.now c.edge.new.self c.in_ok-id.id
    (edge_path c.args.arena.now c.args.u c.args.v c.args.w 1) c.requires.fits c.in_ok-id.ensures.fresh
    c.in_ok-id.ensures.added).live

pub push-requires-clause-fresh : goal.push-requires-clause-fresh
push-requires-clause-fresh c =
    (fresh_in c.args.classes.now c.args.arena.now c.edge.new.self c.in_ok-id.id
    (edge_path c.args.arena.now c.args.u c.args.v c.args.w 1) c.requires.fits c.in_ok-id.ensures.fresh
    c.in_ok-id.ensures.added).fresh
