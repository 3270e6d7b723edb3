use Rattle.std.proofs.Common.{refl, arith}
use Rattle.path_arena.proofs.Paths.{live_added, live_still, edge_added, edges_can_join}
use Rattle.path_arena.proofs.tests.joined_edges.Goals as goal

pub join-requires : goal.join-requires
join-requires c =
    edges_can_join _ _ _ _ _ 0 1 2 _ _ _ _ c.in_ok-left.ensures.fresh c.in_ok-left.ensures.added
    c.in_ok-right.ensures.fresh c.in_ok-right.ensures.added (omega arith)

pub returns-clause-left : goal.returns-clause-left
returns-clause-left c =
    live_still _ _ _ _ c.in_ok-left.left c.in_ok-joined.ensures.added
    (live_still _ _ _ _ c.in_ok-left.left c.in_ok-right.ensures.added (live_added _ _ _ _ c.in_ok-left.ensures.added))

pub returns-clause-joined : goal.returns-clause-joined
returns-clause-joined c = edge_added _ _ _ _ c.in_ok-left.left c.in_ok-joined.ensures.added refl

pub returns-clause-live : goal.returns-clause-live
returns-clause-live c = live_added _ _ _ _ c.in_ok-joined.ensures.added
