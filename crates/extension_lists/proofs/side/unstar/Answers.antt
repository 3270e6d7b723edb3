use Rattle.std.proofs.Common.{◌≡◌, ◌∙◌, ◌<◌, ◌≤◌, Some, sym, subst, arith, List, ℕ, take, length, get_or, Contains}
use Rattle.std.specs.Prelude.{slice_get}
use Rattle.std.proofs.lemmas.List.{get_or-take, length-take-le}
use Rattle.std.proofs.lemmas.List.Sorted.{IsPermutation-refl}
use Rattle.std.proofs.lemmas.Option.{slice_get_within, get_or_from_slice_get}
use Rattle.id_pool.specs.Lists.{list_at, ids_at, marked_at}
use Rattle.extension_lists.specs.Slots.{stars_at}
use Rattle.extension_lists.proofs.Once.{without_absent}
use Rattle.extension_lists.proofs.Taken.{once_front_of, unmarked}
use Rattle.extension_lists.proofs.side.unstar.Goals as goal

placed : (xs ys : List ℕ) (id m p : ℕ) → m ≤ length xs → ys ≡ take m xs → slice_get ys p ≡ Some id → (p < m)
    × (get_or xs p id ≡ id)
placed xs ys id m p most is here =
    let there : slice_get (take m xs) p ≡ Some id = subst (λ (zs : List ℕ). slice_get zs p ≡ Some id) is here in
    let inside : p < m = omega (arith, slice_get_within (take m xs) p id there, length-take-le m xs most) in
    (inside, sym (get_or-take m xs p id inside) ∙ get_or_from_slice_get (take m xs) p id id there)

pub unmark_at-requires-clause-marked : goal.unmark_at-requires-clause-marked
unmark_at-requires-clause-marked c =
    (placed (ids_at c.args.pool.now c.args.list) c.marked_ids.result.now c.args.id
    (marked_at c.args.pool.now c.args.list) c.in-Some.place c.marked_ids.ensures.most c.marked_ids.ensures.lent
    c.in-Some.ensures).0

pub returns-in-Some-clause-moved : goal.returns-in-Some-clause-moved
returns-in-Some-clause-moved c =
    let at = placed (ids_at c.args.pool.now c.args.list) c.marked_ids.result.now c.args.id
    (marked_at c.args.pool.now c.args.list) c.in-Some.place c.marked_ids.ensures.most c.marked_ids.ensures.lent
    c.in-Some.ensures in
    (unmarked c.args.id (list_at c.args.pool.now c.args.list) (list_at c.unmark_at.new.self c.args.list) c.in-Some.place
    c.unmark_at.ensures.unmarked c.marked_ids.ensures.most at.0 at.1 c.requires.once).0

pub returns-in-Some-clause-stars : goal.returns-in-Some-clause-stars
returns-in-Some-clause-stars c =
    let at = placed (ids_at c.args.pool.now c.args.list) c.marked_ids.result.now c.args.id
    (marked_at c.args.pool.now c.args.list) c.in-Some.place c.marked_ids.ensures.most c.marked_ids.ensures.lent
    c.in-Some.ensures in
    (unmarked c.args.id (list_at c.args.pool.now c.args.list) (list_at c.unmark_at.new.self c.args.list) c.in-Some.place
    c.unmark_at.ensures.unmarked c.marked_ids.ensures.most at.0 at.1 c.requires.once).1

pub returns-in_default-clause-moved : goal.returns-in_default-clause-moved
returns-in_default-clause-moved c = IsPermutation-refl (ids_at c.args.pool.now c.args.list)

pub returns-in_default-clause-stars : goal.returns-in_default-clause-stars
returns-in_default-clause-stars c =
    let xs = ids_at c.args.pool.now c.args.list in
    let m = marked_at c.args.pool.now c.args.list in
    without_absent c.args.id (stars_at c.args.pool.now c.args.list)
    (subst (λ (zs : List ℕ). Contains zs c.args.id → ⊥) c.marked_ids.ensures.lent c.in_default.ensures)
    (once_front_of m xs c.marked_ids.ensures.most c.requires.once)
