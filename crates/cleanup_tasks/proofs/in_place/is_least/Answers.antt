use Rattle.std.proofs.Common.{◌≡◌, Some, subst}
use Rattle.apsp_model.specs.Walk.{first, last}
use Rattle.path_arena.specs.Arena.{Arena, list_of}
use Rattle.pair_heaps.proofs.Places.{ends_inside}
use Rattle.cleanup_tasks.proofs.in_place.is_least.Goals as goal

pub least-requires-clause-from : goal.least-requires-clause-from
least-requires-clause-from c =
    (ends_inside c.args.book.now.arena c.args.id c.first-from.result c.last-to.result c.show_lawful.ensures.arena
    c.requires (
      subst (λ (a : Arena). first (list_of a c.args.id) ≡ Some c.first-from.result) c.arena.ensures.lent
          c.first-from.ensures.value,
      subst (λ (a : Arena). last (list_of a c.args.id) ≡ Some c.last-to.result) c.arena-2.ensures.lent
          c.last-to.ensures.value,
    )).0

pub least-requires-clause-to : goal.least-requires-clause-to
least-requires-clause-to c =
    (ends_inside c.args.book.now.arena c.args.id c.first-from.result c.last-to.result c.show_lawful.ensures.arena
    c.requires (
      subst (λ (a : Arena). first (list_of a c.args.id) ≡ Some c.first-from.result) c.arena.ensures.lent
          c.first-from.ensures.value,
      subst (λ (a : Arena). last (list_of a c.args.id) ≡ Some c.last-to.result) c.arena-2.ensures.lent
          c.last-to.ensures.value,
    )).1
