use Rattle.std.proofs.Common.{◌≡◌, ◌∙◌, ◌+◌, ◌-◌, ◌<◌, ◌≤◌, ap, sym, subst, arith, set, length, get_or}
use Rattle.std.specs.Prelude.{slice_index}
use Rattle.std.proofs.lemmas.List.{get_or_read}
use Rattle.id_pool.specs.declared.head.Head.{Head}
use Rattle.id_pool.specs.Heads.{far_of, IsMoved, held_of}
use Rattle.id_pool.specs.Lists.{IsUnmarkedAt}
use Rattle.id_pool.proofs.Taking.{far_unmarked_moved, far_unmarked}
use Rattle.id_pool.proofs.head.Head.unmark_far.Goals as goal

pub returns-clause-moved : goal.returns-clause-moved
returns-clause-moved c =
    let ids = c.args.blocks.now.ids.items in
    let free = c.args.blocks.now.free in
    let h = c.args.self.now in
    let inside : c.args.at < h.len = omega (arith, c.requires.placed.at.2, c.requires.marked) in
    let h' : Head = record { len = h.len; mark = h.mark - 1; few = h.few } in
    subst (λ p. IsMoved ids free (far_of h)
    (set (set ids (p + c.args.at) c.index.result.now) (p + (h.mark - 1)) c.index-id.result.now) free (far_of h'))
    (sym c.place-start.ensures)
    (far_unmarked_moved ids free (slice_index h.few 1) h.len (slice_index h.few 0) h.mark c.args.at c.requires.placed
    inside c.index.result.now c.index-id.result.now c.requires.marked)

pub returns-clause-unmarked : goal.returns-clause-unmarked
returns-clause-unmarked c =
    let ids = c.args.blocks.now.ids.items in
    let free = c.args.blocks.now.free in
    let h = c.args.self.now in
    let start = c.place-start.result in
    let x = c.index.result.now in
    let y = c.index-id.result.now in
    let start_is : start ≡ slice_index h.few 0 = c.place-start.ensures in
    let at_in : c.args.at < h.len = omega (arith, c.requires.placed.at.2, c.requires.marked) in
    let inside : start + h.len ≤ length ids = omega (arith, c.requires.placed.at.1, c.requires.placed.at.3, start_is) in
    let h' : Head = record { len = h.len; mark = h.mark - 1; few = h.few } in
    subst (λ p. IsUnmarkedAt (held_of ids (far_of h))
    (held_of (set (set ids (p + c.args.at) x) (p + (h.mark - 1)) y) (far_of h')) c.args.at) (sym start_is)
    (far_unmarked ids free (slice_index h.few 1) h.len (slice_index h.few 0) h.mark c.args.at c.requires.placed at_in x
    y c.requires.marked
    (get_or_read ids (start + (h.mark - 1)) x (omega (arith, inside, c.requires.placed.at.2, c.requires.marked))
    c.index.ensures 0 ∙ ap (λ p. get_or ids (p + (h.mark - 1)) 0) start_is)
    (get_or_read ids (start + c.args.at) y (omega (arith, inside, at_in)) c.index-id.ensures 0
    ∙ ap (λ p. get_or ids (p + c.args.at) 0) start_is))
