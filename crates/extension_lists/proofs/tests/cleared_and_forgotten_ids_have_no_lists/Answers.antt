use Rattle.std.proofs.Common.{◌∙◌, ap, arith}
use Rattle.std.specs.Prelude.{is_some}
use Rattle.std.specs.FinMap as map
use Rattle.extension_lists.specs.Known.{Known, no_sides}
use Rattle.extension_lists.proofs.Places.{get-remove_same}
use Rattle.extension_lists.proofs.Filled.{put_known, put_itself}
use Rattle.extension_lists.proofs.tests.cleared_and_forgotten_ids_have_no_lists.Goals as goal

pub right-requires : goal.right-requires
right-requires g c = put_itself c.in_ok-lists.lists c.clear.new.self c.new-l.result no_sides c.clear.ensures

pub right_star-requires : goal.right_star-requires
right_star-requires g c = put_itself c.in_ok-lists.lists c.clear.new.self c.new-l.result no_sides c.clear.ensures

pub left-requires : goal.left-requires
left-requires g c =
    put_known c.in_ok-lists.lists c.clear.new.self c.new-l.result c.new-r.result no_sides
    (c.in_ok-lists.ensures c.new-l.result (omega (arith, c.new-l.ensures)))
    (c.in_ok-lists.ensures c.new-r.result (omega (arith, c.new-r.ensures))) c.clear.ensures

pub left_star-requires : goal.left_star-requires
left_star-requires g c =
    put_known c.in_ok-lists.lists c.clear.new.self c.new-l.result c.new-r.result no_sides
    (c.in_ok-lists.ensures c.new-l.result (omega (arith, c.new-l.ensures)))
    (c.in_ok-lists.ensures c.new-r.result (omega (arith, c.new-r.ensures))) c.clear.ensures

pub forget-requires : goal.forget-requires
forget-requires g c =
    put_known c.in_ok-lists.lists c.clear.new.self c.new-l.result c.new-r.result no_sides
    (c.in_ok-lists.ensures c.new-l.result (omega (arith, c.new-l.ensures)))
    (c.in_ok-lists.ensures c.new-r.result (omega (arith, c.new-r.ensures))) c.clear.ensures

pub enter-requires : goal.enter-requires
enter-requires g c =
    ap (λ (m : Known). is_some (map.get m c.new-r.result)) c.forget.ensures
    ∙ ap is_some (get-remove_same c.clear.new.self c.new-r.result)

pub left-requires-2 : goal.left-requires-2
left-requires-2 g c = put_itself c.forget.new.self c.enter.new.self c.new-r.result no_sides c.in_ok-enter.ensures.ok

pub left_star-requires-2 : goal.left_star-requires-2
left_star-requires-2 g c =
    put_itself c.forget.new.self c.enter.new.self c.new-r.result no_sides c.in_ok-enter.ensures.ok
