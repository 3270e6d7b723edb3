use Rattle.std.proofs.Common.{◌≡◌, subst, arith}
use Rattle.path_book.specs.Layout.{IsOpenedTo}
use Rattle.path_book.proofs.Opening.{opened_none, opened_more, not_known_yet}
use Rattle.path_book.proofs.admit.enter_vertices.Goals as goal

pub loop-v-init : goal.loop-v-init
loop-v-init c =
    opened_none c.args.arena.now c.args.lists.now c.args.marks.now.items c.requires.no_lists c.requires.no_marks

pub enter-requires : goal.enter-requires
enter-requires c =
    not_known_yet c.args.arena.now c.loop-v.lists c.loop-v.marks.items c.loop-v.v c.vertex-id.result
    c.vertex-id.ensures.lawful (omega (arith, c.requires.vertices)) c.vertex-id.ensures.value c.loop-v.invariant

pub loop-v-preserved : goal.loop-v-preserved
loop-v-preserved c =
    opened_more c.args.arena.now c.loop-v.lists c.enter.new.self c.loop-v.marks.items c.make_room.new.marks.items
    c.loop-v.v c.vertex-id.result c.key-in-loop-v.result
    c.vertex-id.ensures.lawful (omega (arith, c.requires.vertices)) c.vertex-id.ensures.value c.loop-v.invariant
    c.in_ok-enter.ensures.ok c.in_ok-make_room.ensures.same c.key-in-loop-v.ensures.value
    (omega (
      arith,
      c.in_ok-make_room.ensures.room,
      c.key.ensures.value,
      c.key-in-loop-v.ensures.value,
      c.make_room.new.marks.ok,
    ))

pub returns : goal.returns
returns c =
    let all : c.loop-v.v ≡ c.args.n = omega arith in
    subst (λ v. IsOpenedTo c.args.arena.now c.loop-v.lists c.loop-v.marks.items v) all c.loop-v.invariant
