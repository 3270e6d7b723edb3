use Rattle.std.proofs.Common.{◌≡◌, ◌∙◌, ◌+◌, ◌≤◌, ap, sym, subst, arith, set, length, get_or}
use Rattle.std.specs.Prelude.{slice_index}
use Rattle.std.proofs.lemmas.List.{get_or_read}
use Rattle.id_pool.specs.declared.head.Head.{Head}
use Rattle.id_pool.specs.Heads.{far_of, IsMoved, held_of}
use Rattle.id_pool.specs.Lists.{IsMarkedAt}
use Rattle.id_pool.proofs.Taking.{far_marked_moved, far_marked}
use Rattle.id_pool.proofs.head.Head.mark_far.Goals as goal

pub returns-clause-moved : goal.returns-clause-moved
returns-clause-moved c =
    let ids = c.args.blocks.now.ids.items in
    let free = c.args.blocks.now.free in
    let h = c.args.self.now in
    let h' : Head = record { len = h.len; mark = h.mark + 1; few = h.few } in
    subst (λ p. IsMoved ids free (far_of h)
    (set (set ids (p + h.mark) c.index.result.now) (p + c.args.at) c.index-id.result.now) free (far_of h'))
    (sym c.place-start.ensures)
    (far_marked_moved ids free (slice_index h.few 1) h.len (slice_index h.few 0) h.mark c.args.at c.requires.placed
    c.requires.inside c.index.result.now c.index-id.result.now c.requires.plain)

pub returns-clause-marked : goal.returns-clause-marked
returns-clause-marked c =
    let ids = c.args.blocks.now.ids.items in
    let free = c.args.blocks.now.free in
    let h = c.args.self.now in
    let start = c.place-start.result in
    let x = c.index.result.now in
    let y = c.index-id.result.now in
    let start_is : start ≡ slice_index h.few 0 = c.place-start.ensures in
    let inside : start + h.len ≤ length ids = omega (arith, c.requires.placed.at.1, c.requires.placed.at.3, start_is) in
    let h' : Head = record { len = h.len; mark = h.mark + 1; few = h.few } in
    subst (λ p. IsMarkedAt (held_of ids (far_of h))
    (held_of (set (set ids (p + h.mark) x) (p + c.args.at) y) (far_of h')) c.args.at) (sym start_is)
    (far_marked ids free (slice_index h.few 1) h.len (slice_index h.few 0) h.mark c.args.at c.requires.placed
    c.requires.inside x y c.requires.plain
    (get_or_read ids (start + c.args.at) x (omega (arith, inside, c.requires.inside)) c.index.ensures 0
    ∙ ap (λ p. get_or ids (p + c.args.at) 0) start_is)
    (get_or_read ids (start + h.mark) y (omega (arith, inside, c.requires.inside, c.requires.plain)) c.index-id.ensures
    0 ∙ ap (λ p. get_or ids (p + h.mark) 0) start_is))
