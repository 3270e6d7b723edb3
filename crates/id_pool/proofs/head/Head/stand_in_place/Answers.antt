use Rattle.std.proofs.Common.{◌≡◌, ◌∙◌, ap, sym, subst, arith, ℕ, List, set, length, get_or, length-set}
use Rattle.std.specs.Prelude.{slice_index}
use Rattle.id_pool.specs.declared.head.Head.{Head}
use Rattle.id_pool.specs.Heads.{Shape, Near, far_of, IsMoved}
use Rattle.id_pool.proofs.Moves.{brought_back}
use Rattle.id_pool.proofs.Shapes.{near_is}
use Rattle.id_pool.proofs.head.Head.stand_in_place.Goals as goal

pub returns-clause-moved : goal.returns-clause-moved
returns-clause-moved c =
    let ids = c.args.blocks.now.ids.items in
    let free = c.args.blocks.now.free in
    let h = c.args.self.now in
    let place = slice_index h.few 0 in
    let level = slice_index h.few 1 in
    let few : List ℕ = set (set (set h.few 0 c.index.result.now) 1 c.index-2.result.now) 2 c.index-3.result.now in
    let h' : Head = record { len = h.len; mark = h.mark; few = few } in
    let three : length few ≡ 3 =
    omega (
      arith,
      length-set (set (set h.few 0 c.index.result.now) 1 c.index-2.result.now) 2 c.index-3.result.now,
      length-set (set h.few 0 c.index.result.now) 1 c.index-2.result.now,
      length-set h.few 0 c.index.result.now,
    ) in
    let place_is : c.place-start.result ≡ place = c.place-start.ensures in
    let level_is : c.level-level.result ≡ level = c.level-level.ensures in
    let ids_is : c.give_back.new.self.ids.items ≡ set ids place (get_or free level 0) =
    c.give_back.ensures.ids ∙ ap (λ p. set ids p (get_or free c.level-level.result 0)) place_is
    ∙ ap (λ l. set ids place (get_or free l 0)) level_is in
    let free_is : c.give_back.new.self.free ≡ set free level place =
    c.give_back.ensures.free ∙ ap (λ p. set free c.level-level.result p) place_is
    ∙ ap (λ l. set free l place) level_is in
    subst (λ (s : Shape). IsMoved ids free (far_of h) c.give_back.new.self.ids.items c.give_back.new.self.free s)
    (sym (near_is h' (omega (arith, c.requires.three))))
    (subst (λ (xs : List ℕ). IsMoved ids free (far_of h) xs c.give_back.new.self.free (Near h.len h.mark few))
    (sym ids_is)
    (subst (λ (xs : List ℕ). IsMoved ids free (far_of h) (set ids place (get_or free level 0)) xs
    (Near h.len h.mark few)) (sym free_is)
    (brought_back ids free few level h.len place h.mark h.len h.mark (omega (arith, c.requires.three)) (λ m. m) three)))
