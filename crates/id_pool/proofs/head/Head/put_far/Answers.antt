use Rattle.std.proofs.Common.{◌≡◌, ◌∙◌, ◌+◌, ◌<◌, ◌≤◌, inl, inr, ◌++◌, ◌∷◌, [], ap, sym, subst, arith, ℕ, List, set, take, drop, length, length-set}
use Rattle.std.specs.Prelude.{slice_index}
use Rattle.std.proofs.lemmas.Bool.{cases_lt}
use Rattle.id_pool.specs.Blocks.{room_of}
use Rattle.id_pool.specs.Heads.{Shape, Near, Far, shape, far_of, IsMoved, ids_of, len_of}
use Rattle.id_pool.specs.declared.head.Head.{Head}
use Rattle.id_pool.proofs.Places.{room_double, room_some}
use Rattle.id_pool.proofs.Moves.{written, moved_then, set_outside}
use Rattle.id_pool.proofs.Parts.{part_push}
use Rattle.id_pool.proofs.Shapes.{near_is, near_three, far_is, as_near, as_far, moved_as, ids_as}
use Rattle.id_pool.proofs.head.Head.put_far.Goals as goal

many_of : (h : Head) → 3 ≤ len_of (shape h) → (h.len ≡ 3 → ⊥) → 3 < h.len
many_of h many other = elim (cases_lt 3 h.len) [
  | inl more ↦ more
  | inr upto ↦ let three : 3 ≤ h.len =
      subst (λ (s : Shape). 3 ≤ len_of s) (near_is h upto) many in absurd (other (omega arith))
]

pub returns-then-len-eq3-clause-moved : goal.returns-then-len-eq3-clause-moved
returns-then-len-eq3-clause-moved c =
    let ids = c.args.blocks.now.ids.items in
    let free = c.args.blocks.now.free in
    let ids1 = c.spill.new.blocks.ids.items in
    let to = c.in_ok-to.to in
    let mark = c.args.self.now.mark in
    let placed = as_near ids free c.args.self.now (omega (arith, c.if-len-eq3.true)) c.requires.placed in
    moved_as ids free (set ids1 (to + 3) c.args.id) c.spill.new.blocks.free c.args.self.now c.stand.new.self
    (Near 3 mark c.args.self.now.few) (Far 0 4 to mark)
    (near_three c.args.self.now c.if-len-eq3.true) c.stand.ensures
    (moved_then ids free ids1 c.spill.new.blocks.free (set ids1 (to + 3) c.args.id) c.spill.new.blocks.free
    (Near 3 mark c.args.self.now.few) (Far 0 3 to mark) (Far 0 4 to mark)
    (c.in_ok-to.ensures.moved mark)
    (written ids1 (set ids1 (to + 3) c.args.id) c.spill.new.blocks.free 0 3 to mark 4 mark (omega arith)
    (omega (arith, placed.at.1, c.if-len-eq3.true)) (length-set ids1 (to + 3) c.args.id)
    (set_outside ids1 to (room_of 0) (to + 3) c.args.id (omega arith) (omega arith))))

pub returns-then-len-eq3-clause-ids : goal.returns-then-len-eq3-clause-ids
returns-then-len-eq3-clause-ids c =
    let ids = c.args.blocks.now.ids.items in
    let ids1 = c.spill.new.blocks.ids.items in
    let to = c.in_ok-to.to in
    let mark = c.args.self.now.mark in
    ids_as ids (set ids1 (to + 3) c.args.id) c.args.self.now c.stand.new.self (Near 3 mark c.args.self.now.few)
    (Far 0 4 to mark) (λ xs. xs ++ c.args.id ∷ [])
    (near_three c.args.self.now c.if-len-eq3.true) c.stand.ensures
    (part_push ids1 to 3 c.args.id (omega (arith, c.in_ok-to.ensures.inside))
    ∙ ap (λ (xs : List ℕ). xs ++ c.args.id ∷ []) c.in_ok-to.ensures.ids)

pub returns-then-len-room-clause-moved : goal.returns-then-len-room-clause-moved
returns-then-len-room-clause-moved c =
    let ids = c.args.blocks.now.ids.items in
    let free = c.args.blocks.now.free in
    let h = c.args.self.now in
    let place = slice_index h.few 0 in
    let level = slice_index h.few 1 in
    let h' : Head = record { len = h.len + 1; mark = h.mark; few = h.few } in
    let many : 3 < h.len = many_of c.args.self.now c.requires.many c.if-len-eq3.false in
    let placed = as_far ids free h many c.requires.placed in
    let room : h.len < room_of level =
    subst (λ l. h.len < room_of l) c.level-level.ensures (omega (arith, c.if-len-room.true, c.room.ensures.is)) in
    subst (λ p. IsMoved ids free (shape h) (set ids (p + h.len) c.args.id) free (shape h')) (sym c.place-place.ensures)
    (moved_as ids free (set ids (place + h.len) c.args.id) free h h' (far_of h) (far_of h') (far_is h many)
    (far_is h' (omega arith))
    (written ids (set ids (place + h.len) c.args.id) free level h.len place h.mark (h.len + 1) h.mark
    (omega (arith, room)) (omega (arith, placed.at.2)) (length-set ids (place + h.len) c.args.id)
    (set_outside ids place (room_of level) (place + h.len) c.args.id (omega arith) (omega (arith, room)))))

pub returns-then-len-room-clause-ids : goal.returns-then-len-room-clause-ids
returns-then-len-room-clause-ids c =
    let ids = c.args.blocks.now.ids.items in
    let free = c.args.blocks.now.free in
    let h = c.args.self.now in
    let place = slice_index h.few 0 in
    let level = slice_index h.few 1 in
    let h' : Head = record { len = h.len + 1; mark = h.mark; few = h.few } in
    let many : 3 < h.len = many_of c.args.self.now c.requires.many c.if-len-eq3.false in
    let placed = as_far ids free h many c.requires.placed in
    let room : h.len < room_of level =
    subst (λ l. h.len < room_of l) c.level-level.ensures (omega (arith, c.if-len-room.true, c.room.ensures.is)) in
    subst (λ p. ids_of (set ids (p + h.len) c.args.id) (shape h') ≡ ids_of ids (shape h) ++ c.args.id ∷ [])
    (sym c.place-place.ensures)
    (ids_as ids (set ids (place + h.len) c.args.id) h h' (far_of h) (far_of h') (λ xs. xs ++ c.args.id ∷ [])
    (far_is h many) (far_is h' (omega arith))
    (part_push ids place h.len c.args.id (omega (arith, room, placed.at.3))))

pub returns-clause-moved : goal.returns-clause-moved
returns-clause-moved c =
    let ids = c.args.blocks.now.ids.items in
    let free = c.args.blocks.now.free in
    let h = c.args.self.now in
    let ids1 = c.grow.new.blocks.ids.items in
    let to = c.in_ok-to-2.to in
    let level = slice_index h.few 1 in
    let many : 3 < h.len = many_of c.args.self.now c.requires.many c.if-len-eq3.false in
    let placed = as_far ids free h many c.requires.placed in
    let fits : h.len + 1 ≤ room_of (level + 1) = omega (arith, placed.at.1, room_double level, room_some level) in
    let place_is : c.place-place.result ≡ slice_index h.few 0 = c.place-place.ensures in
    let level_is : c.level-level.result ≡ level = c.level-level.ensures in
    let stands : shape c.stand-2.new.self ≡ Far (level + 1) (h.len + 1) to h.mark =
    c.stand-2.ensures ∙ ap (λ l. Far (l + 1) (h.len + 1) to h.mark) level_is in
    let grown : IsMoved ids free (far_of h) ids1 c.grow.new.blocks.free (Far (level + 1) h.len to h.mark) =
    subst (λ p. IsMoved ids free (Far level h.len p h.mark) ids1 c.grow.new.blocks.free
    (Far (level + 1) h.len to h.mark)) place_is
    (subst (λ l. IsMoved ids free (Far l h.len c.place-place.result h.mark) ids1 c.grow.new.blocks.free
    (Far (l + 1) h.len to h.mark)) level_is (c.in_ok-to-2.ensures.moved h.mark)) in
    moved_as ids free (set ids1 (to + h.len) c.args.id) c.grow.new.blocks.free h c.stand-2.new.self (far_of h)
    (Far (level + 1) (h.len + 1) to h.mark) (far_is h many) stands
    (moved_then ids free ids1 c.grow.new.blocks.free (set ids1 (to + h.len) c.args.id) c.grow.new.blocks.free (far_of h)
    (Far (level + 1) h.len to h.mark) (Far (level + 1) (h.len + 1) to h.mark)
    grown
    (written ids1 (set ids1 (to + h.len) c.args.id) c.grow.new.blocks.free (level + 1) h.len to h.mark (h.len + 1)
    h.mark fits (omega (arith, placed.at.2)) (length-set ids1 (to + h.len) c.args.id)
    (set_outside ids1 to (room_of (level + 1)) (to + h.len) c.args.id (omega arith) (omega (arith, fits)))))

pub returns-clause-ids : goal.returns-clause-ids
returns-clause-ids c =
    let ids = c.args.blocks.now.ids.items in
    let free = c.args.blocks.now.free in
    let h = c.args.self.now in
    let ids1 = c.grow.new.blocks.ids.items in
    let to = c.in_ok-to-2.to in
    let level = slice_index h.few 1 in
    let many : 3 < h.len = many_of c.args.self.now c.requires.many c.if-len-eq3.false in
    let placed = as_far ids free h many c.requires.placed in
    let place_is : c.place-place.result ≡ slice_index h.few 0 = c.place-place.ensures in
    let level_is : c.level-level.result ≡ level = c.level-level.ensures in
    let stands : shape c.stand-2.new.self ≡ Far (level + 1) (h.len + 1) to h.mark =
    c.stand-2.ensures ∙ ap (λ l. Far (l + 1) (h.len + 1) to h.mark) level_is in
    let kept : take h.len (drop to ids1) ≡ take h.len (drop (slice_index h.few 0) ids) =
    c.in_ok-to-2.ensures.ids ∙ ap (λ p. take h.len (drop p ids)) place_is in
    let inside : to + room_of (level + 1) ≤ length ids1 =
    subst (λ l. to + room_of (l + 1) ≤ length ids1) level_is c.in_ok-to-2.ensures.inside in
    ids_as ids (set ids1 (to + h.len) c.args.id) h c.stand-2.new.self (far_of h) (Far (level + 1) (h.len + 1) to h.mark)
    (λ xs. xs ++ c.args.id ∷ []) (far_is h many) stands
    (part_push ids1 to h.len c.args.id (omega (arith, inside, placed.at.1, room_double level, room_some level))
    ∙ ap (λ (xs : List ℕ). xs ++ c.args.id ∷ []) kept)
