use Rattle.std.proofs.Common.{◌≡◌, ◌∙◌, ◌+◌, ◌-◌, ◌<◌, ◌≤◌, ap, sym, subst, arith, set, length, get_or}
use Rattle.std.specs.Prelude.{slice_index}
use Rattle.std.proofs.lemmas.List.{get_or_read}
use Rattle.id_pool.specs.declared.head.Head.{Head}
use Rattle.id_pool.specs.Heads.{far_of, IsMoved, held_of}
use Rattle.id_pool.specs.Lists.{IsTakenAt}
use Rattle.id_pool.proofs.Taking.{two_many, far_taken_moved, far_taken, far_plain_moved, far_plain}
use Rattle.id_pool.proofs.head.Head.close.Goals as goal

pub returns-then-at-self-clause-moved : goal.returns-then-at-self-clause-moved
returns-then-at-self-clause-moved c =
    let ids = c.args.blocks.now.ids.items in
    let free = c.args.blocks.now.free in
    let h = c.args.self.now in
    let at = c.args.at in
    let h' : Head = record { len = h.len - 1; mark = h.mark - 1; few = h.few } in
    subst (λ p. IsMoved ids free (far_of h)
    (set (set (set ids (p + at) c.index.result.now) (p + (h.mark - 1)) c.index-id.result.now) (p + (h.mark - 1))
    c.index-then-at-self.result.now) free (far_of h')) (sym c.place-start.ensures)
    (far_taken_moved ids free (slice_index h.few 1) h.len (slice_index h.few 0) h.mark at c.requires.placed
    c.requires.inside c.index.result.now c.index-id.result.now c.index-then-at-self.result.now c.if-at-self.true)

pub returns-then-at-self-clause-taken : goal.returns-then-at-self-clause-taken
returns-then-at-self-clause-taken c =
    let ids = c.args.blocks.now.ids.items in
    let free = c.args.blocks.now.free in
    let h = c.args.self.now in
    let at = c.args.at in
    let start = c.place-start.result in
    let x = c.index.result.now in
    let y = c.index-id.result.now in
    let z = c.index-then-at-self.result.now in
    let start_is : start ≡ slice_index h.few 0 = c.place-start.ensures in
    let inside : start + h.len ≤ length ids = omega (arith, c.requires.placed.at.1, c.requires.placed.at.3, start_is) in
    let h' : Head = record { len = h.len - 1; mark = h.mark - 1; few = h.few } in
    let below : at < h.mark = c.if-at-self.true in
    subst (λ p. IsTakenAt (held_of ids (far_of h))
    (held_of (set (set (set ids (p + at) x) (p + (h.mark - 1)) y) (p + (h.mark - 1)) z) (far_of h')) at)
    (sym start_is)
    (far_taken ids free (slice_index h.few 1) h.len (slice_index h.few 0) h.mark at c.requires.placed c.requires.inside
    x y z below
    (get_or_read ids (start + (h.mark - 1)) x (omega (arith, inside, c.requires.placed.at.2)) c.index.ensures 0
    ∙ ap (λ p. get_or ids (p + (h.mark - 1)) 0) start_is)
    (get_or_read ids (start + at) y (omega (arith, inside, c.requires.inside)) c.index-id.ensures 0
    ∙ ap (λ p. get_or ids (p + at) 0) start_is)
    (get_or_read (set (set ids (start + at) x) (start + (h.mark - 1)) y) (start + (h.len - 1)) z
    (omega (arith, inside, c.requires.inside, two_many ids (start + at) (start + (h.mark - 1)) x y))
    c.index-then-at-self.ensures 0
    ∙ ap (λ p. get_or (set (set ids (p + at) x) (p + (h.mark - 1)) y) (p + (h.len - 1)) 0) start_is))

pub returns-clause-moved : goal.returns-clause-moved
returns-clause-moved c =
    let ids = c.args.blocks.now.ids.items in
    let free = c.args.blocks.now.free in
    let h = c.args.self.now in
    let h' : Head = record { len = h.len - 1; mark = h.mark; few = h.few } in
    subst (λ p. IsMoved ids free (far_of h) (set ids (p + c.args.at) c.index-2.result.now) free (far_of h'))
    (sym c.place-start.ensures)
    (far_plain_moved ids free (slice_index h.few 1) h.len (slice_index h.few 0) h.mark c.args.at c.requires.placed
    c.requires.inside c.index-2.result.now c.if-at-self.false)

pub returns-clause-taken : goal.returns-clause-taken
returns-clause-taken c =
    let ids = c.args.blocks.now.ids.items in
    let free = c.args.blocks.now.free in
    let h = c.args.self.now in
    let start = c.place-start.result in
    let x = c.index-2.result.now in
    let start_is : start ≡ slice_index h.few 0 = c.place-start.ensures in
    let inside : start + h.len ≤ length ids = omega (arith, c.requires.placed.at.1, c.requires.placed.at.3, start_is) in
    let h' : Head = record { len = h.len - 1; mark = h.mark; few = h.few } in
    subst (λ p. IsTakenAt (held_of ids (far_of h)) (held_of (set ids (p + c.args.at) x) (far_of h')) c.args.at)
    (sym start_is)
    (far_plain ids free (slice_index h.few 1) h.len (slice_index h.few 0) h.mark c.args.at c.requires.placed
    c.requires.inside x c.if-at-self.false
    (get_or_read ids (start + (h.len - 1)) x (omega (arith, inside, c.requires.inside)) c.index-2.ensures 0
    ∙ ap (λ p. get_or ids (p + (h.len - 1)) 0) start_is))
