use Rattle.std.proofs.Common.{◌≡◌, ℕ, ◌∙◌, sym, ap, subst, Some}
use Rattle.apsp_model.specs.Walk.{first, last}
use Rattle.path_arena.specs.Arena.{Arena, list_of}
use Rattle.weight_classes.specs.Classes.{ClassesFit}
use Rattle.fixup.proofs.Joined.{fits_now, not_held, joined_left}
use Rattle.fixup.proofs.class.join.Goals as goal

same_vertex : (x y : ℕ) → Some x ≡ Some y → x ≡ y
same_vertex x y e = cc

pub push-requires-clause-fits : goal.push-requires-clause-fits
push-requires-clause-fits c =
    subst (λ (a : Arena). ClassesFit c.args.classes.now a) (sym c.arena.ensures.lent)
    (fits_now c.args.book.now c.args.l c.args.r c.args.birth c.in_ok-formed.formed.id c.form_join_between.new.self
    c.in_ok-formed.ensures.fresh c.in_ok-formed.ensures.formed c.args.classes.now c.requires.fits)

pub push-requires-clause-fresh : goal.push-requires-clause-fresh
push-requires-clause-fresh c =
    not_held c.args.book.now c.args.l c.args.r c.args.birth c.in_ok-formed.formed.id c.form_join_between.new.self
    c.in_ok-formed.ensures.fresh c.in_ok-formed.ensures.formed c.args.classes.now c.requires.fits

pub returns-else-formed-clause-fits : goal.returns-else-formed-clause-fits
returns-else-formed-clause-fits c =
    fits_now c.args.book.now c.args.l c.args.r c.args.birth c.in_ok-formed.formed.id c.form_join_between.new.self
    c.in_ok-formed.ensures.fresh c.in_ok-formed.ensures.formed c.args.classes.now c.requires.fits

pub returns-else-formed-clause-joined : goal.returns-else-formed-clause-joined
returns-else-formed-clause-joined c =
    let begins : first (list_of c.args.book.now.arena c.args.l) ≡ Some c.first-from.result =
    ap (λ (a : Arena). first (list_of a c.args.l)) (sym c.arena-arena.ensures.lent) ∙ c.first-from.ensures.value in
    let ends : last (list_of c.args.book.now.arena c.args.r) ≡ Some c.last-to.result =
    ap (λ (a : Arena). last (list_of a c.args.r)) (sym c.arena-arena.ensures.lent) ∙ c.last-to.ensures.value in
    joined_left c.args.book.now c.args.l c.args.r c.args.birth c.in_ok-formed.formed.id c.form_join_between.new.self
    c.in_ok-formed.ensures.fresh c.in_ok-formed.ensures.formed c.first-from.result c.last-to.result begins ends
    c.args.classes.now
    (λ same. c.if-from-to.false (same_vertex c.first-from.result c.last-to.result (sym begins ∙ same ∙ ends)))
    c.in_ok-formed.formed.is_least c.in_ok-formed.ensures.least c.if-formed.false
