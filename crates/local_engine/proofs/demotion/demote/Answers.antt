use Rattle.std.proofs.Common.{◌≡◌, Some, sym, ◌∙◌, ap, subst}
use Rattle.std.proofs.lemmas.Bool.{false≢true}
use Rattle.path_arena.specs.Arena.{Arena, HasAnEdge, left_of, right_of, list_of}
use Rattle.local_engine.proofs.Turns.{last_edge, last_covers, none_longer, can_form, turn_with, turn_without, not_by_parts}
use Rattle.local_engine.proofs.demotion.demote.Goals as goal
use Rattle.local_engine.proofs.demotion.demote.Goals.{then-is_least, else-is_least}

pub left_part-left-requires : goal.left_part-left-requires
left_part-left-requires c = subst (λ (a : Arena). HasAnEdge a c.args.id) (sym c.arena-arena.ensures.lent)
    (last_edge c.args.graph.now c.args.book.now c.requires.last.0 c.args.id c.requires.last.1
    c.arena-arena.ensures.lawful)

pub forget_from-requires-clause-last : goal.forget_from-requires-clause-last
forget_from-requires-clause-last c =
    none_longer c.args.graph.now c.args.book.now c.requires.last.0 c.args.id c.requires.last.1
    c.arena-arena.ensures.lawful

pub form-requires : goal.form-requires
form-requires c =
    let left : left_of c.args.book.now.arena c.args.id ≡ Some c.left_part-left.result =
    ap (λ (a : Arena). left_of a c.args.id) (sym c.arena-arena.ensures.lent) ∙ c.left_part-left.ensures.value in
    let right : right_of c.args.book.now.arena c.args.id ≡ Some c.right_part-right.result =
    ap (λ (a : Arena). right_of a c.args.id) (sym c.arena-arena.ensures.lent)
    ∙ c.right_part-right.ensures.value in
    record {
      path = (
        list_of c.args.book.now.arena c.args.id,
        can_form c.args.graph.now c.args.book.now c.requires.last.0 c.args.id c.requires.last.1
            c.arena-arena.ensures.lawful c.left_part-left.result c.right_part-right.result left right
            c.forget_from.new.book c.in_ok-forget_from.ensures.forgotten c.forget_from.ensures.lawful,
      );
    }

pub returns-in_ok-form : goal.returns-in_ok-form
returns-in_ok-form c =
    let g = c.args.graph.now in
    let b = c.args.book.now in
    let id = c.args.id in
    let was = c.arena-arena.ensures.lawful in
    let l = c.left_part-left.result in
    let r = c.right_part-right.result in
    let mid = c.forget_from.new.book in
    let gone = c.in_ok-forget_from.ensures.forgotten in
    let now = c.forget_from.ensures.lawful in
    let left : left_of b.arena id ≡ Some l = ap (λ (a : Arena). left_of a id) (sym c.arena-arena.ensures.lent)
    ∙ c.left_part-left.ensures.value in
    let right : right_of b.arena id ≡ Some r = ap (λ (a : Arena). right_of a id) (sym c.arena-arena.ensures.lent)
    ∙ c.right_part-right.ensures.value in
    record {
      rest = λ rest s. elim c.if-is_least.branch [
        | then-is_least w ↦ turn_with g b rest id s was l r left right mid gone now c.args.birth c.form.new.book
            ((c.is_least.ensures.shortest g (last_covers g b rest id s was)).0 w.if-is_least.true)
            ((w.is_least-again.ensures.shortest g (last_covers g b rest id s was)).0 (sym w.again-is ∙ c.if-again.true))
            (c.in_ok-form.ensures.formed (list_of b.arena id) (can_form g b rest id s was l r left right mid gone now))
        | else-is_least w ↦ absurd (false≢true (sym w.if-is_least.false ∙ sym w.again-is ∙ c.if-again.true))
      ];
    }

pub returns-else-again : goal.returns-else-again
returns-else-again c =
    let g = c.args.graph.now in
    let b = c.args.book.now in
    let id = c.args.id in
    let was = c.arena-arena.ensures.lawful in
    let l = c.left_part-left.result in
    let r = c.right_part-right.result in
    let mid = c.forget_from.new.book in
    let gone = c.in_ok-forget_from.ensures.forgotten in
    let now = c.forget_from.ensures.lawful in
    let left : left_of b.arena id ≡ Some l = ap (λ (a : Arena). left_of a id) (sym c.arena-arena.ensures.lent)
    ∙ c.left_part-left.ensures.value in
    let right : right_of b.arena id ≡ Some r = ap (λ (a : Arena). right_of a id) (sym c.arena-arena.ensures.lent)
    ∙ c.right_part-right.ensures.value in
    record {
      rest = λ rest s. turn_without g b rest id s was l r left right mid gone now c.args.birth
          (not_by_parts g b rest id s was l r left right mid gone now (λ q. elim c.if-is_least.branch [
            | then-is_least w ↦ false≢true (sym (sym w.again-is ∙ c.if-again.false)
                ∙ (w.is_least-again.ensures.shortest g (last_covers g b rest id s was)).1 q.1)
            | else-is_least w ↦ false≢true
                (sym w.if-is_least.false ∙ (c.is_least.ensures.shortest g (last_covers g b rest id s was)).1 q.0)
          ]));
    }
