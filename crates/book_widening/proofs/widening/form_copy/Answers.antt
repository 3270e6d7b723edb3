use Rattle.std.proofs.Common.{◌≡◌, Some, None, ap, sym, subst, ◌∙◌}
use Rattle.apsp_model.specs.Walk.{hops_of, first, last}
use Rattle.path_arena.specs.Arena.{path_at, path_of, list_of, weight_of_id, edge_path, joined_path}
use Rattle.path_book.specs.Book.{IsNewList, with_kept}
use Rattle.book_widening.specs.Copies.{IsFormedLike}
use Rattle.book_widening.proofs.Copying.{joins_found, new_list, first_inside, last_inside, edge_list, if_both}
use Rattle.book_widening.proofs.widening.form_copy.Goals as goal

pub form_edge-requires-clause-from : goal.form_edge-requires-clause-from
form_edge-requires-clause-from c =
    first_inside c.args.book.now c.args.wide.now c.args.copies.now c.requires.copies c.args.id c.requires.ready
    c.first-from.result (ap (λ a. first (list_of a c.args.id)) (sym c.arena-arena.ensures.lent)
    ∙ c.first-from.ensures.value)

pub form_edge-requires-clause-to : goal.form_edge-requires-clause-to
form_edge-requires-clause-to c =
    last_inside c.args.book.now c.args.wide.now c.args.copies.now c.requires.copies c.args.id c.requires.ready
    c.last-to.result (ap (λ a. last (list_of a c.args.id)) (sym c.arena-arena.ensures.lent) ∙ c.last-to.ensures.value)

pub form_edge-requires-clause-new : goal.form_edge-requires-clause-new
form_edge-requires-clause-new c =
    let begins : first (list_of c.args.book.now.arena c.args.id) ≡ Some c.first-from.result =
    ap (λ a. first (list_of a c.args.id)) (sym c.arena-arena.ensures.lent) ∙ c.first-from.ensures.value in
    let ends : last (list_of c.args.book.now.arena c.args.id) ≡ Some c.last-to.result =
    ap (λ a. last (list_of a c.args.id)) (sym c.arena-arena.ensures.lent) ∙ c.last-to.ensures.value in
    let one : hops_of (list_of c.args.book.now.arena c.args.id) ≡ 1 =
    ap (λ a. hops_of (list_of a c.args.id)) (sym c.arena-arena.ensures.lent) ∙ sym c.hops.ensures.value
    ∙ c.if-hops-eq1.true in
    subst (IsNewList c.args.wide.now) (sym
    (edge_list c.args.book.now c.args.wide.now c.args.copies.now c.requires.copies c.args.id c.requires.ready
    c.first-from.result c.last-to.result begins ends one))
    (new_list c.args.book.now c.args.wide.now c.args.copies.now c.requires.copies c.args.id c.requires.ready)

pub form_join-requires-clause-join : goal.form_join-requires-clause-join
form_join-requires-clause-join c =
    (joins_found c.args.book.now c.args.wide.now c.args.copies.now c.requires.copies c.args.id c.requires.ready
    c.requires.sums c.arena-arena.result.now c.arena-arena.ensures.lent c.left_part.result c.right_part.result
    c.copied-left.result c.copied-right.result c.birth-birth.result c.hops.result
    c.left_part.ensures.value c.right_part.ensures.value c.copied-left.ensures c.copied-right.ensures
    c.hops.ensures.value c.if-hops-eq1.false).can

pub form_join-requires-clause-left : goal.form_join-requires-clause-left
form_join-requires-clause-left c =
    (joins_found c.args.book.now c.args.wide.now c.args.copies.now c.requires.copies c.args.id c.requires.ready
    c.requires.sums c.arena-arena.result.now c.arena-arena.ensures.lent c.left_part.result c.right_part.result
    c.copied-left.result c.copied-right.result c.birth-birth.result c.hops.result
    c.left_part.ensures.value c.right_part.ensures.value c.copied-left.ensures c.copied-right.ensures
    c.hops.ensures.value c.if-hops-eq1.false).left

pub form_join-requires-clause-right : goal.form_join-requires-clause-right
form_join-requires-clause-right c =
    (joins_found c.args.book.now c.args.wide.now c.args.copies.now c.requires.copies c.args.id c.requires.ready
    c.requires.sums c.arena-arena.result.now c.arena-arena.ensures.lent c.left_part.result c.right_part.result
    c.copied-left.result c.copied-right.result c.birth-birth.result c.hops.result
    c.left_part.ensures.value c.right_part.ensures.value c.copied-left.ensures c.copied-right.ensures
    c.hops.ensures.value c.if-hops-eq1.false).right

pub form_join-requires-clause-new : goal.form_join-requires-clause-new
form_join-requires-clause-new c =
    subst (IsNewList c.args.wide.now) (sym
    (joins_found c.args.book.now c.args.wide.now c.args.copies.now c.requires.copies c.args.id c.requires.ready
    c.requires.sums c.arena-arena.result.now c.arena-arena.ensures.lent c.left_part.result c.right_part.result
    c.copied-left.result c.copied-right.result c.birth-birth.result c.hops.result
    c.left_part.ensures.value c.right_part.ensures.value c.copied-left.ensures c.copied-right.ensures
    c.hops.ensures.value c.if-hops-eq1.false).list)
    (new_list c.args.book.now c.args.wide.now c.args.copies.now c.requires.copies c.args.id c.requires.ready)

pub returns-then-hops-eq1-clause-formed : goal.returns-then-hops-eq1-clause-formed
returns-then-hops-eq1-clause-formed c =
    let begins : first (list_of c.args.book.now.arena c.args.id) ≡ Some c.first-from.result =
    ap (λ a. first (list_of a c.args.id)) (sym c.arena-arena.ensures.lent) ∙ c.first-from.ensures.value in
    let ends : last (list_of c.args.book.now.arena c.args.id) ≡ Some c.last-to.result =
    ap (λ a. last (list_of a c.args.id)) (sym c.arena-arena.ensures.lent) ∙ c.last-to.ensures.value in
    let one : hops_of (list_of c.args.book.now.arena c.args.id) ≡ 1 =
    ap (λ a. hops_of (list_of a c.args.id)) (sym c.arena-arena.ensures.lent) ∙ sym c.hops.ensures.value
    ∙ c.if-hops-eq1.true in
    if_both (λ q. path_at c.args.wide.now.arena q ≡ None)
    (λ q. c.form_edge.new.self ≡ with_kept c.args.wide.now q
    (edge_path c.args.wide.now.arena c.first-from.result c.last-to.result c.weight.result c.birth-birth.result))
    (IsFormedLike c.args.book.now c.args.wide.now c.form_edge.new.self c.args.id)
    (λ q fresh formed. record {
      path = edge_path c.args.wide.now.arena c.first-from.result c.last-to.result c.weight.result c.birth-birth.result;
      formed = formed;
      fresh = fresh;
      list = edge_list c.args.book.now c.args.wide.now c.args.copies.now c.requires.copies c.args.id c.requires.ready
          c.first-from.result c.last-to.result begins ends one;
      weight = c.weight.ensures.value ∙ ap (λ a. weight_of_id a c.args.id) c.arena-arena.ensures.lent;
      birth = c.birth-birth.ensures.value ∙ ap (λ a. (path_of a c.args.id).birth) c.arena-arena.ensures.lent;
    }) c.form_edge.result c.form_edge.ensures.fresh c.form_edge.ensures.formed

pub returns-else-hops-eq1-clause-formed : goal.returns-else-hops-eq1-clause-formed
returns-else-hops-eq1-clause-formed c =
    if_both (λ q. path_at c.args.wide.now.arena q ≡ None)
    (λ q. c.form_join.new.self ≡ with_kept c.args.wide.now q
    (joined_path c.args.wide.now.arena c.copied-left.result c.copied-right.result c.birth-birth.result))
    (IsFormedLike c.args.book.now c.args.wide.now c.form_join.new.self c.args.id)
    (λ q fresh formed. record {
      path = joined_path c.args.wide.now.arena c.copied-left.result c.copied-right.result c.birth-birth.result;
      formed = formed;
      fresh = fresh;
      list = (joins_found c.args.book.now c.args.wide.now c.args.copies.now c.requires.copies c.args.id c.requires.ready
          c.requires.sums c.arena-arena.result.now c.arena-arena.ensures.lent c.left_part.result c.right_part.result
          c.copied-left.result c.copied-right.result c.birth-birth.result c.hops.result
          c.left_part.ensures.value c.right_part.ensures.value c.copied-left.ensures c.copied-right.ensures
          c.hops.ensures.value c.if-hops-eq1.false).list;
      weight = (joins_found c.args.book.now c.args.wide.now c.args.copies.now c.requires.copies c.args.id
          c.requires.ready c.requires.sums c.arena-arena.result.now c.arena-arena.ensures.lent c.left_part.result
          c.right_part.result c.copied-left.result c.copied-right.result c.birth-birth.result c.hops.result
          c.left_part.ensures.value c.right_part.ensures.value c.copied-left.ensures c.copied-right.ensures
          c.hops.ensures.value c.if-hops-eq1.false).weight;
      birth = c.birth-birth.ensures.value ∙ ap (λ a. (path_of a c.args.id).birth) c.arena-arena.ensures.lent;
    }) c.form_join.result c.form_join.ensures.fresh c.form_join.ensures.formed
