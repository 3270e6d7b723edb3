use Rattle.std.proofs.Common.{◌≡◌, ◌-◌, ◌<◌, ◌≤◌, sym, subst, arith, get_or, set}
use Rattle.std.proofs.lemmas.List.{get_or_default}
use Rattle.id_pool.specs.declared.head.Head.{Head}
use Rattle.id_pool.specs.Heads.{Shape, Near, shape, far_of, IsPlacedInPool, IsMoved, mark_of}
use Rattle.id_pool.specs.Lists.{IsUnmarkedAt}
use Rattle.id_pool.proofs.Shapes.{near_is, far_is, as_near, held_as}
use Rattle.id_pool.proofs.Taking.{near_unmarked}
use Rattle.id_pool.proofs.head.Head.unmark_at.Goals as goal

pub returns-then-self-gt3-clause-moved : goal.returns-then-self-gt3-clause-moved
returns-then-self-gt3-clause-moved c =
    let ids = c.args.blocks.now.ids.items in
    let free = c.args.blocks.now.free in
    let h = c.args.self.now in
    let h' = c.unmark_far.new.self in
    let len : h'.len ≡ h.len = c.unmark_far.ensures.len in
    subst (λ (s : Shape). IsMoved ids free s c.unmark_far.new.blocks.ids.items c.unmark_far.new.blocks.free (shape h'))
    (sym (far_is h c.if-self-gt3.true))
    (subst (λ (s : Shape). IsMoved ids free (far_of h) c.unmark_far.new.blocks.ids.items c.unmark_far.new.blocks.free s)
    (sym (far_is h' (omega (arith, c.if-self-gt3.true, len)))) c.unmark_far.ensures.moved)

pub returns-clause-unmarked : goal.returns-clause-unmarked
returns-clause-unmarked c =
    let ids = c.args.blocks.now.ids.items in
    let h = c.args.self.now in
    let at = c.args.at in
    let few : h.len ≤ 3 = c.if-self-gt3.false in
    let x = get_or h.few (h.mark - 1) c.index-self-last.result in
    let y = get_or h.few at c.index-self-at.result in
    let h' : Head = record { len = h.len; mark = h.mark - 1; few = set (set h.few at x) (h.mark - 1) y } in
    let placed : IsPlacedInPool ids c.args.blocks.now.free (Near h.len h.mark h.few) =
    as_near ids c.args.blocks.now.free h few c.requires.placed in
    let below : at < h.mark = subst (λ (s : Shape). at < mark_of s) (near_is h few) c.requires.marked in
    let inside : at < h.len = omega (arith, placed.at.1, below) in
    held_as ids ids h h' (Near h.len h.mark h.few) (Near h.len (h.mark - 1) (set (set h.few at x) (h.mark - 1) y))
    (λ a b. IsUnmarkedAt a b at) (near_is h few) (near_is h' few)
    (near_unmarked ids c.args.blocks.now.free h.few h.len h.mark at placed inside x y below
    (get_or_default h.few (h.mark - 1) c.index-self-last.result 0
    (omega (arith, placed.at.0, placed.at.1, placed.at.2, below)))
    (get_or_default h.few at c.index-self-at.result 0 (omega (arith, placed.at.0, placed.at.2, inside))))
