use Rattle.std.proofs.Common.{ℕ, ◌-◌, if◌then◌else◌, refl, sym, ◌∙◌, subst}
use Rattle.std.specs.FinSet as set
use Rattle.path_arena.specs.Arena.{HasAnEdge, IsPartOfNone}
use Rattle.path_book.specs.Book.{Book, IsLeastKeptId}
use Rattle.path_book.specs.Layout.{view_of, marked_in, mark_at, IsStored}
use Rattle.path_book.proofs.Forgotten.{LeftOver, left_over_now, but_lists, some_of_kind, empty_lists, stands_only, is_held}
use Rattle.path_book.proofs.Places.{contains-marked_in}
use Rattle.path_book.proofs.Unmarked.{clean_higher}
use Rattle.path_book.proofs.book.Book.forget_higher.Goals as goal

pub remove-requires-clause-held : goal.remove-requires-clause-held
remove-requires-clause-held c =
    is_held (view_of c.self.inside) c.self.inside.heaps c.args.id c.self.invariant.stored.book
    c.self.invariant.stored.heaps (subst (λ (b : Book). HasAnEdge b.arena c.args.id) (sym c.self.view_is)
    c.requires.edge)

pub drop_id-requires-clause-empty : goal.drop_id-requires-clause-empty
drop_id-requires-clause-empty c =
    empty_lists (view_of c.self.inside) c.args.id c.self.invariant.stored.book
    (subst (λ (b : Book). IsPartOfNone b.arena c.args.id) (sym c.self.view_is) c.requires.free)

pub drop_id-requires-clause-nowhere_else : goal.drop_id-requires-clause-nowhere_else
drop_id-requires-clause-nowhere_else c =
    stands_only (view_of c.self.inside) c.args.id _ _ c.self.invariant.stored.book c.left_part-left.ensures.value
    c.right_part-right.ensures.value

pub uncount-requires : goal.uncount-requires
uncount-requires c =
    some_of_kind (view_of c.self.inside) c.args.id c.self.inside.lists
    (but_lists (view_of c.self.inside) c.self.invariant.stored.book)
    (subst (λ (b : Book). HasAnEdge b.arena c.args.id) (sym c.self.view_is) c.requires.edge)
    (subst (λ (b : Book). IsPartOfNone b.arena c.args.id) (sym c.self.view_is) c.requires.free)
    c.self.inside.historical c.self.inside.pending c.self.invariant.stored.historical_count
    c.self.invariant.stored.pending_count (mark_at c.self.inside.marks.items c.key.result)
    (sym (λ i. set.contains (marked_in c.self.inside.marks.items) (c.key.ensures.value i))
    ∙ contains-marked_in c.self.inside.marks.items c.key.result)

left : (c : goal.After-uncount) → LeftOver (view_of c.self.inside) c.args.id c.remove.new.self c.remove-2.new.self
    c.drop_id.new.self c.uncount.new.marks.items c.self.inside.historical c.self.inside.pending
    (mark_at c.self.inside.marks.items c.key.result)
left c =
    left_over_now (view_of c.self.inside) c.args.id c.key.result c.self.inside.heaps c.remove.new.self
    c.remove-2.new.self _ _ c.drop_id.new.self c.self.inside.marks.items c.uncount.new.marks.items _ _
    (mark_at c.self.inside.marks.items c.key.result) c.self.invariant.stored
    (subst (λ (b : Book). HasAnEdge b.arena c.args.id) (sym c.self.view_is) c.requires.edge)
    (subst (λ (b : Book). IsPartOfNone b.arena c.args.id) (sym c.self.view_is) c.requires.free)
    refl c.key.ensures.value c.remove-2.ensures.removed c.left_part-left.ensures.value c.right_part-right.ensures.value
    c.drop_id.ensures c.remove.ensures.fits c.remove.ensures.removed
    refl c.uncount.ensures.cleared

pub invariant_of-self : goal.invariant_of-self
invariant_of-self c = record {
  stored =
      subst (λ h. IsStored (record {
        arena = c.remove-2.new.self;
        marked = marked_in c.uncount.new.marks.items;
        lists
            = c.drop_id.new.self;
      }) c.remove.new.self h c.uncount.new.unmarked) (sym c.uncount.ensures.marked)
      (subst (λ p. IsStored (record {
        arena = c.remove-2.new.self;
        marked = marked_in c.uncount.new.marks.items;
        lists
            = c.drop_id.new.self;
      }) c.remove.new.self
      (if mark_at c.self.inside.marks.items c.key.result then c.self.inside.historical - 1 else
      c.self.inside.historical) p) (sym c.uncount.ensures.unmarked)
      (left c).stored);
  dirty = clean_higher (view_of c.self.inside) _ c.args.id (left c).forgotten
      (subst (λ (b : Book). (x y : ℕ) → IsLeastKeptId b x y c.args.id → ⊥) (sym c.self.view_is) c.requires.above)
      c.self.inside.dirty c.self.invariant.dirty;
}

pub returns-clause-lawful : goal.returns-clause-lawful
returns-clause-lawful c = (left c).stored.book
