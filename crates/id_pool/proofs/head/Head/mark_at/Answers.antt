use Rattle.std.proofs.Common.{◌≡◌, ◌+◌, ◌<◌, ◌≤◌, sym, subst, arith, get_or, set}
use Rattle.std.proofs.lemmas.List.{get_or_default}
use Rattle.id_pool.specs.declared.head.Head.{Head}
use Rattle.id_pool.specs.Heads.{Shape, Near, shape, far_of, IsPlacedInPool, IsMoved, len_of, mark_of}
use Rattle.id_pool.specs.Lists.{IsMarkedAt}
use Rattle.id_pool.proofs.Shapes.{near_is, far_is, as_near, held_as}
use Rattle.id_pool.proofs.Taking.{near_marked}
use Rattle.id_pool.proofs.head.Head.mark_at.Goals as goal

pub returns-then-self-gt3-clause-moved : goal.returns-then-self-gt3-clause-moved
returns-then-self-gt3-clause-moved c =
    let ids = c.args.blocks.now.ids.items in
    let free = c.args.blocks.now.free in
    let h = c.args.self.now in
    let h' = c.mark_far.new.self in
    let len : h'.len ≡ h.len = c.mark_far.ensures.len in
    subst (λ (s : Shape). IsMoved ids free s c.mark_far.new.blocks.ids.items c.mark_far.new.blocks.free (shape h'))
    (sym (far_is h c.if-self-gt3.true))
    (subst (λ (s : Shape). IsMoved ids free (far_of h) c.mark_far.new.blocks.ids.items c.mark_far.new.blocks.free s)
    (sym (far_is h' (omega (arith, c.if-self-gt3.true, len)))) c.mark_far.ensures.moved)

pub returns-clause-marked : goal.returns-clause-marked
returns-clause-marked c =
    let ids = c.args.blocks.now.ids.items in
    let h = c.args.self.now in
    let at = c.args.at in
    let few : h.len ≤ 3 = c.if-self-gt3.false in
    let x = get_or h.few at c.index-self-at.result in
    let y = get_or h.few h.mark c.index-self-first.result in
    let h' : Head = record { len = h.len; mark = h.mark + 1; few = set (set h.few h.mark x) at y } in
    let placed : IsPlacedInPool ids c.args.blocks.now.free (Near h.len h.mark h.few) =
    as_near ids c.args.blocks.now.free h few c.requires.placed in
    let inside : at < h.len = subst (λ (s : Shape). at < len_of s) (near_is h few) c.requires.inside in
    let plain : h.mark ≤ at = subst (λ (s : Shape). mark_of s ≤ at) (near_is h few) c.requires.plain in
    held_as ids ids h h' (Near h.len h.mark h.few) (Near h.len (h.mark + 1) (set (set h.few h.mark x) at y))
    (λ a b. IsMarkedAt a b at) (near_is h few) (near_is h' few)
    (near_marked ids c.args.blocks.now.free h.few h.len h.mark at placed inside x y plain
    (get_or_default h.few at c.index-self-at.result 0 (omega (arith, placed.at.0, placed.at.2, inside)))
    (get_or_default h.few h.mark c.index-self-first.result 0 (omega (arith, placed.at.0, placed.at.2, inside, plain))))
