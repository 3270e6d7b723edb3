use Rattle.std.proofs.Common.{◌≡◌, ℕ, Some, sym, ◌∙◌, ap, subst}
use Rattle.std.proofs.lemmas.Bool.{eq-eqb, eqb-true}
use Rattle.apsp_model.specs.Walk.{first, last}
use Rattle.path_arena.specs.Arena.{Arena, list_of}
use Rattle.pair_heaps.proofs.Places.{ends_inside}
use Rattle.apsp_model.specs.Local.{IsShortest}
use Rattle.local_engine.proofs.Reading.{least_is_shortest, shortest_is_first}
use Rattle.local_engine.proofs.search.is_least.Goals as goal

pub least-requires-clause-from : goal.least-requires-clause-from
least-requires-clause-from c =
    (ends_inside c.args.book.now.arena c.args.id c.first-from.result c.last-to.result
    c.arena-arena.ensures.lawful.arena c.requires.live (
      ap (λ (a : Arena). first (list_of a c.args.id)) (sym c.arena-arena.ensures.lent) ∙ c.first-from.ensures.value,
      ap (λ (a : Arena). last (list_of a c.args.id)) (sym c.arena-arena.ensures.lent) ∙ c.last-to.ensures.value,
    )).0

pub least-requires-clause-to : goal.least-requires-clause-to
least-requires-clause-to c =
    (ends_inside c.args.book.now.arena c.args.id c.first-from.result c.last-to.result
    c.arena-arena.ensures.lawful.arena c.requires.live (
      ap (λ (a : Arena). first (list_of a c.args.id)) (sym c.arena-arena.ensures.lent) ∙ c.first-from.ensures.value,
      ap (λ (a : Arena). last (list_of a c.args.id)) (sym c.arena-arena.ensures.lent) ∙ c.last-to.ensures.value,
    )).1

same_some : (x y : ℕ) → Some x ≡ Some y → x ≡ y
same_some x y e = cc

pub returns-in-Some : goal.returns-in-Some
returns-in-Some c =
    let b = c.args.book.now in
    let from : first (list_of b.arena c.args.id) ≡ Some c.first-from.result =
    ap (λ (a : Arena). first (list_of a c.args.id)) (sym c.arena-arena.ensures.lent)
    ∙ c.first-from.ensures.value in
    let to : last (list_of b.arena c.args.id) ≡ Some c.last-to.result =
    ap (λ (a : Arena). last (list_of a c.args.id)) (sym c.arena-arena.ensures.lent) ∙ c.last-to.ensures.value in
    record {
      shortest = λ g covers. (
        λ t. subst (λ k. IsShortest g (list_of b.arena k)) (eqb-true c.in-Some.first c.args.id (sym c.eq.ensures ∙ t))
            (least_is_shortest b g covers c.first-from.result c.last-to.result c.in-Some.first
            c.in-Some.ensures.least),
        λ h. c.eq.ensures ∙ eq-eqb c.in-Some.first c.args.id
            (same_some c.in-Some.first c.args.id
            (shortest_is_first b g covers c.first-from.result c.last-to.result c.arena-arena.ensures.lawful c.args.id
            c.requires.live (from, to) h (Some c.in-Some.first) c.in-Some.ensures.least)),
      );
    }
