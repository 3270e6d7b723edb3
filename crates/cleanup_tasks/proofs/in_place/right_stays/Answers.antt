use Rattle.std.proofs.Common.{◌∙◌, ◌≡◌, Some, ap, subst}
use Rattle.apsp_model.specs.Walk.{first}
use Rattle.path_arena.specs.Arena.{Arena, list_of, right_of}
use Rattle.cleanup_tasks.proofs.Refreshing.{right_avoids, right_by_least, right_goes}
use Rattle.cleanup_tasks.proofs.in_place.right_stays.Goals as goal

pub returns-then-first-v-clause-yes : goal.returns-then-first-v-clause-yes
returns-then-first-v-clause-yes c =
    λ _. right_avoids c.args.book.now c.show_lawful.ensures c.args.v c.args.id c.requires
    (subst (λ (a : Arena). first (list_of a c.args.id) ≡ Some c.first.result) c.arena.ensures.lent c.first.ensures.value
    ∙ ap Some c.if-first-v.true)

pub returns-clause-yes : goal.returns-clause-yes
returns-clause-yes c =
    λ yes. right_by_least c.args.book.now c.show_lawful.ensures c.args.v c.args.id c.requires c.right_part.result
    (subst (λ (a : Arena). right_of a c.args.id ≡ Some c.right_part.result) c.arena-2.ensures.lent
    c.right_part.ensures.value) (c.is_least.ensures.yes yes)

pub returns-clause-no : goal.returns-clause-no
returns-clause-no c =
    λ no. right_goes c.args.book.now c.show_lawful.ensures c.args.v c.args.id c.requires c.first.result
    c.right_part.result
    (subst (λ (a : Arena). first (list_of a c.args.id) ≡ Some c.first.result) c.arena.ensures.lent
    c.first.ensures.value) c.if-first-v.false
    (subst (λ (a : Arena). right_of a c.args.id ≡ Some c.right_part.result) c.arena-2.ensures.lent
    c.right_part.ensures.value) (c.is_least.ensures.no no)
