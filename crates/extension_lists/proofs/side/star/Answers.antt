use Rattle.std.proofs.Common.{◌≡◌, ◌∙◌, ◌+◌, ◌<◌, ◌≤◌, Some, ap, arith, List, ℕ, take, length}
use Rattle.std.specs.Prelude.{slice_get, Contains}
use Rattle.std.proofs.lemmas.List.Sorted.{IsPermutation-swap}
use Rattle.std.proofs.lemmas.Option.{slice_get_within, get_or_from_slice_get}
use Rattle.id_pool.specs.Lists.{ids_at, marked_at}
use Rattle.extension_lists.proofs.Taken.{marked_place, marked_more}
use Rattle.extension_lists.proofs.side.star.Goals as goal

behind : (xs : List ℕ) (id m p : ℕ) → m ≤ length xs → slice_get xs p ≡ Some id → (Contains (take m xs) id → ⊥) → (m ≤ p)
    × (p < length xs)
behind xs id m p most there new =
    let inside : p < length xs = slice_get_within xs p id there in
    (marked_place id xs m p most inside (get_or_from_slice_get xs p id id there) new, inside)

pub mark_at-requires-clause-plain : goal.mark_at-requires-clause-plain
mark_at-requires-clause-plain c =
    (behind (ids_at c.args.pool.now c.args.list) c.args.id (marked_at c.args.pool.now c.args.list)
    c.place_of-place.result c.place_of-place.ensures.most c.place_of-place.ensures.place c.requires.new).0

pub mark_at-requires-clause-place : goal.mark_at-requires-clause-place
mark_at-requires-clause-place c =
    (behind (ids_at c.args.pool.now c.args.list) c.args.id (marked_at c.args.pool.now c.args.list)
    c.place_of-place.result c.place_of-place.ensures.most c.place_of-place.ensures.place c.requires.new).1

pub returns-clause-moved : goal.returns-clause-moved
returns-clause-moved c =
    let xs = ids_at c.args.pool.now c.args.list in
    let m = marked_at c.args.pool.now c.args.list in
    let place = c.place_of-place.result in
    let at = behind xs c.args.id m place c.place_of-place.ensures.most c.place_of-place.ensures.place c.requires.new in
    IsPermutation-swap xs (ids_at c.mark_at.new.self c.args.list) m place (omega (arith, at.0, at.1)) at.1
    c.mark_at.ensures.marked.ids

pub returns-clause-starred : goal.returns-clause-starred
returns-clause-starred c =
    let xs = ids_at c.args.pool.now c.args.list in
    let m = marked_at c.args.pool.now c.args.list in
    let place = c.place_of-place.result in
    let at = behind xs c.args.id m place c.place_of-place.ensures.most c.place_of-place.ensures.place c.requires.new in
    ap (λ n. take n (ids_at c.mark_at.new.self c.args.list)) c.mark_at.ensures.marked.marked
    ∙ ap (λ (ys : List ℕ). take (m + 1) ys) c.mark_at.ensures.marked.ids
    ∙ marked_more c.args.id xs m place at.0 at.1
    (get_or_from_slice_get xs place c.args.id c.args.id c.place_of-place.ensures.place)
