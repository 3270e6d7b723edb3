use Rattle.std.proofs.Common.{◌≡◌, ◌∙◌, ap, sym, subst, arith, List, ℕ, set, get_or}
use Rattle.std.specs.Prelude.{slice_index}
use Rattle.id_pool.specs.declared.head.Head.{Head}
use Rattle.id_pool.specs.Heads.{Shape, Near, far_of, IsMoved}
use Rattle.id_pool.proofs.Moves.{brought_back}
use Rattle.id_pool.proofs.Shapes.{near_is}
use Rattle.id_pool.proofs.head.Head.clear_far.Goals as goal

pub returns-clause-moved : goal.returns-clause-moved
returns-clause-moved c =
    let ids = c.args.blocks.now.ids.items in
    let free = c.args.blocks.now.free in
    let h = c.args.self.now in
    let place = slice_index h.few 0 in
    let level = slice_index h.few 1 in
    let h' : Head = record { len = 0; mark = 0; few = h.few } in
    let ids_is : c.give_back.new.self.ids.items ≡ set ids place (get_or free level 0) =
    c.give_back.ensures.ids ∙ ap (λ p. set ids p (get_or free c.level.result 0)) c.place.ensures
    ∙ ap (λ l. set ids place (get_or free l 0)) c.level.ensures in
    let free_is : c.give_back.new.self.free ≡ set free level place =
    c.give_back.ensures.free ∙ ap (λ p. set free c.level.result p) c.place.ensures
    ∙ ap (λ l. set free l place) c.level.ensures in
    subst (λ (s : Shape). IsMoved ids free (far_of h) c.give_back.new.self.ids.items c.give_back.new.self.free s)
    (sym (near_is h' (omega arith)))
    (subst (λ (xs : List ℕ). IsMoved ids free (far_of h) xs c.give_back.new.self.free (Near 0 0 h.few)) (sym ids_is)
    (subst (λ (xs : List ℕ). IsMoved ids free (far_of h) (set ids place (get_or free level 0)) xs (Near 0 0 h.few))
    (sym free_is)
    (brought_back ids free h.few level h.len place h.mark 0 0 (omega arith) (λ m. omega arith) (omega arith))))
