use Rattle.std.proofs.Common.{arith}
use Rattle.path_arena.proofs.Paths.{live_added, live_still, edges_can_join}
use Rattle.path_arena.proofs.tests.tying_paths.Goals as goal

pub join-requires : goal.join-requires
join-requires c =
    edges_can_join _ _ _ _ _ 0 1 3 _ _ _ _ c.in_ok-first.ensures.fresh c.in_ok-first.ensures.added
    c.in_ok-third.ensures.fresh c.in_ok-third.ensures.added (omega arith)

pub join-requires-2 : goal.join-requires-2
join-requires-2 c =
    edges_can_join _ _ _ _ _ 0 2 3 _ _ _ _ c.in_ok-second.ensures.fresh c.in_ok-second.ensures.added
    c.in_ok-fourth.ensures.fresh c.in_ok-fourth.ensures.added (omega arith)

pub returns-clause-through_one : goal.returns-clause-through_one
returns-clause-through_one c =
    let one = c.in_ok-through_one.through_one in
    live_still _ _ _ _ one c.in_ok-direct.ensures.added
    (live_still _ _ _ _ one c.in_ok-through_two.ensures.added
    (live_still _ _ _ _ one c.in_ok-fourth.ensures.added
    (live_still _ _ _ _ one c.in_ok-second.ensures.added (live_added _ _ _ _ c.in_ok-through_one.ensures.added))))

pub returns-clause-through_two : goal.returns-clause-through_two
returns-clause-through_two c =
    live_still _ _ _ _ c.in_ok-through_two.through_two c.in_ok-direct.ensures.added
    (live_added _ _ _ _ c.in_ok-through_two.ensures.added)

pub returns-clause-direct : goal.returns-clause-direct
returns-clause-direct c = live_added _ _ _ _ c.in_ok-direct.ensures.added
