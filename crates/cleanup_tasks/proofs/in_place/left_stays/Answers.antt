use Rattle.std.proofs.Common.{◌∙◌, ◌≡◌, Some, ap, subst}
use Rattle.apsp_model.specs.Walk.{last}
use Rattle.path_arena.specs.Arena.{Arena, list_of, left_of}
use Rattle.cleanup_tasks.proofs.Refreshing.{left_avoids, left_by_least, left_goes}
use Rattle.cleanup_tasks.proofs.in_place.left_stays.Goals as goal

pub returns-then-last-v-clause-yes : goal.returns-then-last-v-clause-yes
returns-then-last-v-clause-yes c = λ _. left_avoids c.args.book.now c.show_lawful.ensures c.args.v c.args.id c.requires
    (subst (λ (a : Arena). last (list_of a c.args.id) ≡ Some c.last.result) c.arena.ensures.lent c.last.ensures.value
    ∙ ap Some c.if-last-v.true)

pub returns-clause-yes : goal.returns-clause-yes
returns-clause-yes c =
    λ yes. left_by_least c.args.book.now c.show_lawful.ensures c.args.v c.args.id c.requires c.left_part.result
    (subst (λ (a : Arena). left_of a c.args.id ≡ Some c.left_part.result) c.arena-2.ensures.lent
    c.left_part.ensures.value) (c.is_least.ensures.yes yes)

pub returns-clause-no : goal.returns-clause-no
returns-clause-no c =
    λ no. left_goes c.args.book.now c.show_lawful.ensures c.args.v c.args.id c.requires c.last.result c.left_part.result
    (subst (λ (a : Arena). last (list_of a c.args.id) ≡ Some c.last.result) c.arena.ensures.lent c.last.ensures.value)
    c.if-last-v.false
    (subst (λ (a : Arena). left_of a c.args.id ≡ Some c.left_part.result) c.arena-2.ensures.lent
    c.left_part.ensures.value) (c.is_least.ensures.no no)
