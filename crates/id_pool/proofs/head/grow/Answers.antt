use Rattle.std.proofs.Common.{◌≡◌, ◌+◌, ◌-◌, ◌<◌, ◌≤◌, inl, inr, sym, subst, arith, List, ℕ, set, take, drop, length, get_or}
use Rattle.std.specs.List.{SameBelow, SameFrom}
use Rattle.id_pool.specs.Blocks.{room_of, IsGiven}
use Rattle.id_pool.specs.Heads.{Shape, Far, IsPlacedInPool, IsMoved}
use Rattle.id_pool.proofs.Places.{room_some, room_double}
use Rattle.id_pool.proofs.Moves.{IsSameOutside, moved_on}
use Rattle.id_pool.proofs.Parts.{carried}
use Rattle.id_pool.proofs.head.grow.Goals as goal

far_given : (c : goal.After-give_back-arg-1)
    → IsGiven c.args.blocks.now.ids.items c.args.blocks.now.free c.take.new.self.ids.items c.take.new.self.free
    c.in_ok-to.to (c.args.level + 1)
far_given c = c.in_ok-to.ensures.ok

pub give_back-requires-clause-small : goal.give_back-requires-clause-small
give_back-requires-clause-small c =
    omega (
      arith,
      c.copy_within.ensures.len,
      c.copy_within.new.self.ok.0,
      c.take.new.self.ids.ok.0,
      ((far_given c).given c.requires.o c.requires.depth c.requires.stands).stands.small,
    )

outside_copy : (ids1 ids2 : List ℕ) (to n room : ℕ) → n ≤ room → SameBelow ids1 ids2 to → SameFrom ids1 ids2 (to + n)
    → IsSameOutside ids1 ids2 to room
outside_copy ids1 ids2 to n room fits below above p inside (inl out) = below p 0 out
outside_copy ids1 ids2 to n room fits below above p inside (inr out) = above p 0 (omega arith)

pub returns-clause-moved : goal.returns-clause-moved
returns-clause-moved c = λ mark.
    let ids = c.args.blocks.now.ids.items in
    let free = c.args.blocks.now.free in
    let ids1 = c.take.new.self.ids.items in
    let free1 = c.take.new.self.free in
    let ids2 = c.copy_within.new.self.items in
    let to = c.in_ok-to.to in
    let level = c.args.level in
    let far : Shape = Far level c.args.len c.args.place mark in
    let now : Shape = Far (level + 1) c.args.len to mark in
    let t : IsGiven ids free ids1 free1 to (level + 1) = c.in_ok-to.ensures.ok in
    let placed : IsPlacedInPool ids free (Far level c.args.len c.args.place 0) = c.requires in
    let fits : c.args.len ≤ room_of (level + 1) = omega (arith, placed.at.1, room_double level) in
    let level_in : level + 1 < 13 = omega (arith, placed.at.0, c.if-level-eq-LEVELS.false) in
    let many : length ids2 ≡ length ids1 =
    omega (arith, c.copy_within.ensures.len, c.copy_within.new.self.ok.0, c.take.new.self.ids.ok.0) in
    let by = c.copy_within.ensures.by_index in
    subst (λ (xs : List ℕ). IsMoved ids free far xs c.give_back.new.self.free now) (sym c.give_back.ensures.ids)
    (subst (λ (xs : List ℕ). IsMoved ids free far (set ids2 c.args.place (get_or free1 level 0)) xs now)
    (sym c.give_back.ensures.free)
    (moved_on ids free ids1 free1 ids2 level (level + 1) c.args.len c.args.place to mark t level_in fits many
    (outside_copy ids1 ids2 to (c.args.place + c.args.len - c.args.place) (room_of (level + 1)) (omega (arith, fits))
    by.1 by.2)))

pub returns-clause-ids : goal.returns-clause-ids
returns-clause-ids c =
    let ids = c.args.blocks.now.ids.items in
    let free = c.args.blocks.now.free in
    let ids1 = c.take.new.self.ids.items in
    let free1 = c.take.new.self.free in
    let ids2 = c.copy_within.new.self.items in
    let to = c.in_ok-to.to in
    let level = c.args.level in
    let t : IsGiven ids free ids1 free1 to (level + 1) = c.in_ok-to.ensures.ok in
    let placed : IsPlacedInPool ids free (Far level c.args.len c.args.place 0) = c.requires in
    let many : length ids2 ≡ length ids1 =
    omega (arith, c.copy_within.ensures.len, c.copy_within.new.self.ok.0, c.take.new.self.ids.ok.0) in
    subst (λ (xs : List ℕ). take c.args.len (drop to xs) ≡ take c.args.len (drop c.args.place ids))
    (sym c.give_back.ensures.ids)
    (carried ids free ids1 free1 ids2 level (level + 1) c.args.len c.args.place to 0
    (c.args.place + c.args.len - c.args.place) (get_or free1 level 0) placed t
    (omega (arith, placed.at.1, room_double level)) (omega arith) many c.copy_within.ensures.by_index.0)

pub returns-clause-small : goal.returns-clause-small
returns-clause-small c =
    let t : IsGiven c.args.blocks.now.ids.items c.args.blocks.now.free c.take.new.self.ids.items c.take.new.self.free
    c.in_ok-to.to (c.args.level + 1) = c.in_ok-to.ensures.ok in
    omega (
      arith,
      t.inside,
      room_some (c.args.level + 1),
      (t.given c.requires.o c.requires.depth c.requires.stands).stands.small,
    )
