use Rattle.std.proofs.Common.{◌≡◌, ◌∙◌, sym, ap, subst}
use Rattle.path_arena.specs.Arena.{Arena, HasAnEdge}
use Rattle.path_book.specs.Book.{Book, with_new_birth, IsBook}
use Rattle.path_book.specs.Layout.{view_of, marked_in, IsStored, IsClean}
use Rattle.path_book.proofs.Unmarked.{book_born, stored_born, clean_born}
use Rattle.path_book.proofs.book.Book.set_birth.Goals as goal

edge : (c : goal.After-set_birth) → HasAnEdge c.self.inside.arena c.args.id
edge c = subst (λ (b : Book). HasAnEdge b.arena c.args.id) (sym c.self.view_is) c.requires

same : (c : goal.After-set_birth) → ◌≡◌ {A = Book}
    (record { arena = c.set_birth.new.self; marked = marked_in c.self.inside.marks.items; lists = c.self.inside.lists })
    (with_new_birth (view_of c.self.inside) c.args.id c.args.birth)
same c = ap (λ (a : Arena). record {
  arena = a;
  marked = marked_in c.self.inside.marks.items;
  lists
      = c.self.inside.lists;
}) c.set_birth.ensures.born

pub invariant_of-self : goal.invariant_of-self
invariant_of-self c = record {
  stored = subst (λ (b : Book). IsStored b c.self.inside.heaps c.self.inside.historical c.self.inside.pending)
      (sym (same c)) (stored_born (view_of c.self.inside) c.args.id c.args.birth c.self.invariant.stored.book (edge c)
      c.self.inside.heaps c.self.inside.historical c.self.inside.pending c.self.invariant.stored);
  dirty = subst (λ (b : Book). IsClean b c.self.inside.dirty) (sym (same c))
      (clean_born (view_of c.self.inside) c.args.id c.args.birth c.self.invariant.stored.book (edge c)
      c.self.inside.dirty c.self.invariant.dirty);
}

pub returns-clause-born : goal.returns-clause-born
returns-clause-born c = same c ∙ ap (λ (b : Book). with_new_birth b c.args.id c.args.birth) c.self.view_is

pub returns-clause-lawful : goal.returns-clause-lawful
returns-clause-lawful c =
    subst IsBook (sym (same c)) (book_born (view_of c.self.inside) c.args.id c.args.birth c.self.invariant.stored.book
    (edge c))
