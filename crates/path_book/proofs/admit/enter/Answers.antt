use Rattle.std.proofs.Common.{◌≡◌, sym, ◌∙◌, subst}
use Rattle.extension_lists.specs.Known.{no_sides, IsKnown, sides_at, IsDropped, StandsOnlyAt}
use Rattle.path_book.specs.Admitted.{StandsNowhere}
use Rattle.path_book.proofs.Entering.{entered_itself, entered_still, sides_of_new, stands_nowhere, stands_only, dropped_again}
use Rattle.path_book.proofs.admit.enter.Goals as goal

pub add-requires : goal.add-requires
add-requires c =
    let m = c.args.lists.now in
    let e = c.in_ok-enter.ensures.ok in
    let gone : StandsNowhere c.enter.new.self c.args.id =
    subst (λ k. StandsNowhere k c.args.id) (sym e) (stands_nowhere m c.args.id c.requires.new c.requires.nowhere) in
    record {
      known = subst (λ k. IsKnown k c.args.id) (sym e) (entered_itself m c.args.id c.requires.new);
      known_l =
          subst (λ k. IsKnown k c.args.left) (sym e)
          (entered_still m c.args.id c.requires.new c.args.left c.requires.left_known);
      known_r =
          subst (λ k. IsKnown k c.args.right) (sym e)
          (entered_still m c.args.id c.requires.new c.args.right c.requires.right_known);
      new_right = gone.right c.args.left;
      new_left = gone.left c.args.right;
    }

pub drop_id-requires : goal.drop_id-requires
drop_id-requires c =
    let m = c.args.lists.now in
    let e = c.in-Err.ensures.err ∙ c.in_ok-enter.ensures.ok in
    record {
      known = subst (λ k. IsKnown k c.args.id) (sym e) (entered_itself m c.args.id c.requires.new);
      known_l =
          subst (λ k. IsKnown k c.args.left) (sym e)
          (entered_still m c.args.id c.requires.new c.args.left c.requires.left_known);
      known_r =
          subst (λ k. IsKnown k c.args.right) (sym e)
          (entered_still m c.args.id c.requires.new c.args.right c.requires.right_known);
      empty = subst (λ k. sides_at k c.args.id ≡ no_sides) (sym e) (sides_of_new m c.args.id c.requires.new);
      nowhere_else =
          subst (λ k. StandsOnlyAt k c.args.id c.args.left c.args.right) (sym e)
          (stands_only m c.args.id c.requires.new c.args.left c.args.right c.requires.nowhere);
    }

pub returns-in-Err-clause-same : goal.returns-in-Err-clause-same
returns-in-Err-clause-same c =
    let m = c.args.lists.now in
    let e = c.in-Err.ensures.err ∙ c.in_ok-enter.ensures.ok in
    dropped_again m c.args.id c.requires.new c.args.left c.args.right c.drop_id.new.self c.requires.nowhere
    (subst (λ k. IsDropped k c.drop_id.new.self c.args.id c.args.left c.args.right) e c.drop_id.ensures)
