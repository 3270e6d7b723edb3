use Rattle.std.proofs.Common.{rules, ◌≡◌, ◌++◌, ◌∙◌, ap, subst}
use Rattle.apsp_model.specs.Walk.{IsOnceEach}
use Rattle.extension_lists.specs.Known.{Known, sides_at}
use Rattle.local_engine.proofs.Forgetting.{longer_are}
use Rattle.local_engine.proofs.demotion.longer_by_one.Goals as goal

pub returns : goal.returns
returns c =
    let left : c.left.result.now ≡ (sides_at c.args.book.now.lists c.args.id).left =
    c.left.ensures.lent ∙ ap (λ (m : Known). (sides_at m c.args.id).left) c.lists.ensures.lent in
    let right : c.right.result.now ≡ (sides_at c.args.book.now.lists c.args.id).right =
    c.right.ensures.lent ∙ ap (λ (m : Known). (sides_at m c.args.id).right) c.lists-2.ensures.lent in
    let one : c.extend_from_slice.new.self.items ≡ c.new-ids.result.items ++ c.left.result.now = search rules in
    let two : c.extend_from_slice-2.new.self.items ≡ c.extend_from_slice.new.self.items ++ c.right.result.now =
    search rules in
    record {
      longer = longer_are c.args.book.now c.args.id c.extend_from_slice-2.new.self.items c.show_lawful.ensures
          (two ∙ (λ i. (one ∙ (λ j. c.new-ids.ensures.items j ++ left j)) i ++ right i))
          (subst IsOnceEach left c.left.ensures.once) (subst IsOnceEach right c.right.ensures.once);
    }
