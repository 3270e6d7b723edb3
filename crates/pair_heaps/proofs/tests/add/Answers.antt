use Rattle.path_arena.specs.Arena.{edge_path}
use Rattle.pair_heaps.proofs.Fits.{fresh_in}
use Rattle.pair_heaps.proofs.tests.add.Goals as goal

pub insert-requires-clause-fits : goal.insert-requires-clause-fits
insert-requires-clause-fits c =
    (fresh_in c.reserve.new.self c.args.arena.now c.edge.new.self c.in_ok-id.id
    (edge_path c.args.arena.now 0 2 c.args.w 1) ((c.reserve.ensures.fits c.args.arena.now).0 c.requires.fits)
    c.in_ok-id.ensures.fresh c.in_ok-id.ensures.added).fits

pub insert-requires-clause-live : goal.insert-requires-clause-live
insert-requires-clause-live c =
    (fresh_in c.reserve.new.self c.args.arena.now c.edge.new.self c.in_ok-id.id
    (edge_path c.args.arena.now 0 2 c.args.w 1) ((c.reserve.ensures.fits c.args.arena.now).0 c.requires.fits)
    c.in_ok-id.ensures.fresh c.in_ok-id.ensures.added).live

pub insert-requires-clause-fresh : goal.insert-requires-clause-fresh
insert-requires-clause-fresh c =
    (fresh_in c.reserve.new.self c.args.arena.now c.edge.new.self c.in_ok-id.id
    (edge_path c.args.arena.now 0 2 c.args.w 1) ((c.reserve.ensures.fits c.args.arena.now).0 c.requires.fits)
    c.in_ok-id.ensures.fresh c.in_ok-id.ensures.added).fresh
