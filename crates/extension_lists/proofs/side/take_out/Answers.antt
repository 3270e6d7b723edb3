use Rattle.std.proofs.Common.{◌≡◌, ◌<◌, ◌≤◌, Some, ap, subst, arith, List, ℕ, length, get_or, Contains}
use Rattle.std.specs.Prelude.{slice_get}
use Rattle.std.proofs.lemmas.Option.{slice_get_within, get_or_from_slice_get}
use Rattle.id_pool.specs.Lists.{list_at, ids_at, marked_at}
use Rattle.extension_lists.specs.Slots.{stars_at}
use Rattle.extension_lists.proofs.Once.{without_absent}
use Rattle.extension_lists.proofs.Taken.{absent_front, once_front_of, taken_out}
use Rattle.extension_lists.proofs.side.take_out.Goals as goal

placed : (xs ys : List ℕ) (id p : ℕ) → ys ≡ xs → slice_get ys p ≡ Some id → (p < length xs) × (get_or xs p id ≡ id)
placed xs ys id p is here =
    let there : slice_get xs p ≡ Some id = subst (λ (zs : List ℕ). slice_get zs p ≡ Some id) is here in
    (slice_get_within xs p id there, get_or_from_slice_get xs p id id there)

pub take_at-requires-clause-place : goal.take_at-requires-clause-place
take_at-requires-clause-place c =
    (placed (ids_at c.args.pool.now c.args.list) c.ids.result.now c.args.id c.in-Some.place c.ids.ensures.lent
    c.in-Some.ensures).0

pub returns-in-Some-clause-without : goal.returns-in-Some-clause-without
returns-in-Some-clause-without c =
    let at = placed (ids_at c.args.pool.now c.args.list) c.ids.result.now c.args.id c.in-Some.place c.ids.ensures.lent
    c.in-Some.ensures in
    (taken_out c.args.id (list_at c.args.pool.now c.args.list) (list_at c.take_at.new.self c.args.list) c.in-Some.place
    c.take_at.ensures.taken c.take_at.ensures.most at.0 at.1 c.requires.once).0

pub returns-in-Some-clause-stars : goal.returns-in-Some-clause-stars
returns-in-Some-clause-stars c =
    let at = placed (ids_at c.args.pool.now c.args.list) c.ids.result.now c.args.id c.in-Some.place c.ids.ensures.lent
    c.in-Some.ensures in
    (taken_out c.args.id (list_at c.args.pool.now c.args.list) (list_at c.take_at.new.self c.args.list) c.in-Some.place
    c.take_at.ensures.taken c.take_at.ensures.most at.0 at.1 c.requires.once).1

pub returns-in_default-clause-stars : goal.returns-in_default-clause-stars
returns-in_default-clause-stars c =
    let xs = ids_at c.args.pool.now c.args.list in
    let m = marked_at c.args.pool.now c.args.list in
    let most : m ≤ length xs = omega (arith, c.ids.ensures.marked, ap length c.ids.ensures.lent) in
    without_absent c.args.id (stars_at c.args.pool.now c.args.list)
    (absent_front m xs c.args.id most (subst (λ (zs : List ℕ). Contains zs c.args.id → ⊥) c.ids.ensures.lent
    c.in_default.ensures))
    (once_front_of m xs most c.requires.once)
