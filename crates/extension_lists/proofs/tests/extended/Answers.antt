use Rattle.std.proofs.Common.{◌≤◌, subst, arith}
use Rattle.extension_lists.proofs.Filled.{AreFilled, nothing_filled, filled_entered, weaker, can_add, can_star, filled_one_more, filled_star, not_filled}
use Rattle.extension_lists.proofs.tests.extended.Goals as goal

pub enter-requires : goal.enter-requires
enter-requires c =
    not_filled c.new-lists.result 0 0 c.new-l.result (nothing_filled c.new-lists.result c.new-lists.ensures)
    c.new-l.ensures

pub enter-requires-2 : goal.enter-requires-2
enter-requires-2 c =
    not_filled c.enter.new.self 1 0 c.new-r.result
    (filled_entered c.new-lists.result c.enter.new.self 0 0 c.new-l.result c.new-l.ensures
    (nothing_filled c.new-lists.result c.new-lists.ensures) c.in_ok-enter.ensures.ok) c.new-r.ensures

pub stars-init : goal.stars-init
stars-init c =
    weaker c.enter-2.new.self 2 0 2 (omega arith)
    (filled_entered c.enter.new.self c.enter-2.new.self 1 0 c.new-r.result c.new-r.ensures
    (filled_entered c.new-lists.result c.enter.new.self 0 0 c.new-l.result c.new-l.ensures
    (nothing_filled c.new-lists.result c.new-lists.ensures) c.in_ok-enter.ensures.ok) c.in_ok-enter-2.ensures.ok)

pub add-requires : goal.add-requires
add-requires c =
    let f = filled_entered c.stars.lists c.enter-in-stars.new.self c.stars.key c.stars.key c.new-id.result
    c.new-id.ensures c.stars.invariant c.in_ok-enter-3.ensures.ok in
    let can =
    can_add c.enter-in-stars.new.self c.stars.key c.new-id.result c.new-l.result c.new-r.result f c.new-id.ensures
    c.new-l.ensures c.new-r.ensures c.stars.auto.key in
    record { known = can.0; known_l = can.1; known_r = can.2; new_right = can.3; new_left = can.4 }

pub add_star-requires : goal.add_star-requires
add_star-requires c =
    let f = filled_entered c.stars.lists c.enter-in-stars.new.self c.stars.key c.stars.key c.new-id.result
    c.new-id.ensures c.stars.invariant c.in_ok-enter-3.ensures.ok in
    let can =
    can_star c.enter-in-stars.new.self c.stars.key c.new-id.result c.new-l.result c.new-r.result f c.new-id.ensures
    c.new-l.ensures c.new-r.ensures c.stars.auto.key c.add.new.self c.in_ok-add.ensures.ok in
    record { known_l = can.0; known_r = can.1; right = can.2; left = can.3; new_right = can.4; new_left = can.5 }

pub stars-preserved : goal.stars-preserved
stars-preserved c =
    let f = filled_entered c.stars.lists c.enter-in-stars.new.self c.stars.key c.stars.key c.new-id.result
    c.new-id.ensures c.stars.invariant c.in_ok-enter-3.ensures.ok in
    filled_star c.enter-in-stars.new.self c.stars.key c.new-id.result c.new-l.result c.new-r.result f c.new-id.ensures
    c.new-l.ensures c.new-r.ensures c.stars.auto.key c.add.new.self c.in_ok-add.ensures.ok c.add_star.new.self
    c.in_ok-add_star.ensures.ok

pub others-init : goal.others-init
others-init c =
    let low : c.stars.key ≤ c.args.plain = c.stars.auto.key-end c.requires.two in
    let high : c.args.plain ≤ c.stars.key = c.stars-test.false in
    subst (λ n. AreFilled c.stars.lists n n) (omega arith) c.stars.invariant

pub add-requires-in-others : goal.add-requires-in-others
add-requires-in-others c =
    let f = filled_entered c.others.lists c.enter-in-others.new.self c.others.key c.others.key c.new-id-in-others.result
    c.new-id-in-others.ensures c.others.invariant c.in_ok-enter-4.ensures.ok in
    let low : c.args.plain ≤ c.others.key = c.others.auto.key in
    let can =
    can_add c.enter-in-others.new.self c.others.key c.new-id-in-others.result c.new-l.result c.new-r.result f
    c.new-id-in-others.ensures c.new-l.ensures c.new-r.ensures (omega (arith, c.requires.two)) in
    record { known = can.0; known_l = can.1; known_r = can.2; new_right = can.3; new_left = can.4 }

pub others-preserved : goal.others-preserved
others-preserved c =
    let f = filled_entered c.others.lists c.enter-in-others.new.self c.others.key c.others.key c.new-id-in-others.result
    c.new-id-in-others.ensures c.others.invariant c.in_ok-enter-4.ensures.ok in
    let low : c.args.plain ≤ c.others.key = c.others.auto.key in
    filled_one_more c.enter-in-others.new.self c.others.key c.new-id-in-others.result c.new-l.result c.new-r.result f
    c.new-id-in-others.ensures c.new-l.ensures c.new-r.ensures (omega (arith, c.requires.two))
    c.add-in-others.new.self c.in_ok-add-2.ensures.ok
