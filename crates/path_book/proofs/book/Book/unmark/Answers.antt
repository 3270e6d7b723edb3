use Rattle.std.proofs.Common.{◌≡◌, ◌+◌, ◌-◌, ◌<◌, ℕ, slice_set, false, length, refl, sym, ◌∙◌, ap, subst, arith}
use Rattle.extension_lists.specs.Known.{IsUnstarred}
use Rattle.path_arena.specs.Arena.{HasAnEdge, IsPartOfNone, path_of}
use Rattle.path_book.specs.Book.{Book, IsMarked, without_mark, left_id, right_id, IsBook, IsLeastKeptId}
use Rattle.path_book.specs.Layout.{view_of, marked_in, IsStored, IsClean}
use Rattle.path_book.proofs.Unmarked.{unmarked_now, unmarked_place, same_unmarked, clean_unmarked, is_unstarred}
use Rattle.path_book.proofs.book.Book.unmark.Goals as goal

pub index_mut-requires : goal.index_mut-requires
index_mut-requires c =
    let within : c.key.result < length c.self.inside.marks.items =
    unmarked_place (view_of c.self.inside) c.args.self.now c.self.inside.marks.items c.args.id c.key.result
    c.self.view_is refl c.requires.marked c.key.ensures.value in
    omega (arith, within, c.self.inside.marks.ok)

pub overflow_sub-self : goal.overflow_sub-self
overflow_sub-self c =
    (unmarked_now (view_of c.self.inside) c.args.self.now c.args.id c.left_part-left.result c.right_part-right.result
    c.drop_star.new.self c.self.inside.heaps c.self.inside.historical c.self.inside.pending c.self.view_is
    c.self.invariant.stored
    c.requires.edge c.requires.free c.requires.marked c.left_part-left.ensures.value c.right_part-right.ensures.value
    c.drop_star.ensures).0

stored : (c : goal.After-self-3-1) → IsStored (without_mark (view_of c.self.inside) c.args.id c.drop_star.new.self)
    c.self.inside.heaps (c.self.inside.historical - 1) (c.self.inside.pending + 1)
stored c =
    (unmarked_now (view_of c.self.inside) c.args.self.now c.args.id c.left_part-left.result c.right_part-right.result
    c.drop_star.new.self c.self.inside.heaps c.self.inside.historical c.self.inside.pending c.self.view_is
    c.self.invariant.stored
    c.requires.edge c.requires.free c.requires.marked c.left_part-left.ensures.value c.right_part-right.ensures.value
    c.drop_star.ensures).1

same : (c : goal.After-self-3-1) → ◌≡◌ {A = Book}
    (record {
      arena = c.self.inside.arena;
      marked = marked_in (slice_set c.self.inside.marks.items c.key.result false);
      lists = c.drop_star.new.self;
    }) (without_mark (view_of c.self.inside) c.args.id c.drop_star.new.self)
same c =
    same_unmarked (view_of c.self.inside) c.self.inside.marks.items c.args.id c.key.result c.drop_star.new.self refl
    (unmarked_place (view_of c.self.inside) c.args.self.now c.self.inside.marks.items c.args.id c.key.result
    c.self.view_is refl c.requires.marked c.key.ensures.value) c.key.ensures.value

pub invariant_of-self : goal.invariant_of-self
invariant_of-self c = record {
  stored = subst (λ (b : Book). IsStored b c.self.inside.heaps (c.self.inside.historical - 1)
      (c.self.inside.pending + 1)) (sym (same c)) (stored c);
  dirty = subst (λ (b : Book). IsClean b c.self.inside.dirty) (sym (same c))
      (clean_unmarked (view_of c.self.inside) c.args.id c.self.invariant.stored.book
      (subst (λ (b : Book). HasAnEdge b.arena c.args.id) (sym c.self.view_is) c.requires.edge)
      (subst (λ (b : Book). IsPartOfNone b.arena c.args.id) (sym c.self.view_is) c.requires.free)
      (subst (λ (b : Book). IsMarked b c.args.id) (sym c.self.view_is) c.requires.marked)
      c.drop_star.new.self c.self.inside.dirty c.self.invariant.dirty
      (subst (λ (b : Book). (x y : ℕ) → IsLeastKeptId b x y c.args.id → ⊥) (sym c.self.view_is) c.requires.above));
}

pub returns-clause-unmarked : goal.returns-clause-unmarked
returns-clause-unmarked c = same c ∙ ap (λ (b : Book). without_mark b c.args.id c.drop_star.new.self) c.self.view_is

pub returns-clause-unstarred : goal.returns-clause-unstarred
returns-clause-unstarred c =
    subst (λ (b : Book). IsUnstarred b.lists c.drop_star.new.self c.args.id (left_id (path_of b.arena c.args.id))
    (right_id (path_of b.arena c.args.id))) c.self.view_is
    (is_unstarred (view_of c.self.inside) c.args.id c.left_part-left.result c.right_part-right.result
    c.drop_star.new.self c.left_part-left.ensures.value c.right_part-right.ensures.value c.drop_star.ensures)

pub returns-clause-lawful : goal.returns-clause-lawful
returns-clause-lawful c = subst IsBook (sym (same c)) (stored c).book
