use Rattle.std.proofs.Common.{◌≡◌, ◌+◌, ◌-◌, ◌≤◌, slice_set, true, sym, ◌∙◌, ap, subst, arith}
use Rattle.extension_lists.specs.Known.{IsStarred}
use Rattle.path_arena.specs.Arena.{IsLive, path_of}
use Rattle.path_book.specs.Book.{Book, IsMarked, with_mark, left_id, right_id, IsBook}
use Rattle.path_book.specs.Layout.{view_of, marked_in, IsStored, IsClean}
use Rattle.path_book.proofs.Promoted.{stored_promoted, is_starred, is_promoted}
use Rattle.path_book.proofs.Readers.{pending_has_edge}
use Rattle.path_book.proofs.Clean.{clean_promoted}
use Rattle.path_book.proofs.book.Book.promote.Goals as goal

pub left_part-left-requires : goal.left_part-left-requires
left_part-left-requires c =
    pending_has_edge (view_of c.self.inside) c.args.id c.self.invariant.stored.book
    (subst (λ (b : Book). IsLive b.arena c.args.id) (sym c.self.view_is) c.requires.live)
    (subst (λ (b : Book). IsMarked b c.args.id → ⊥) (sym c.self.view_is) c.requires.pending)

pub add_star-requires-clause-right : goal.add_star-requires-clause-right
add_star-requires-clause-right c = (c.self.invariant.stored.book.extensions.right _ _).1 c.left_part-left.ensures.value

pub add_star-requires-clause-left : goal.add_star-requires-clause-left
add_star-requires-clause-left c = (c.self.invariant.stored.book.extensions.left _ _).1 c.right_part-right.ensures.value

pub add_star-requires-clause-new_right : goal.add_star-requires-clause-new_right
add_star-requires-clause-new_right c =
    λ stands. subst (λ (b : Book). IsMarked b c.args.id → ⊥) (sym c.self.view_is) c.requires.pending
    ((c.self.invariant.stored.book.extensions.right_star _ _).0 stands).1

pub add_star-requires-clause-new_left : goal.add_star-requires-clause-new_left
add_star-requires-clause-new_left c =
    λ stands. subst (λ (b : Book). IsMarked b c.args.id → ⊥) (sym c.self.view_is) c.requires.pending
    ((c.self.invariant.stored.book.extensions.left_star _ _).0 stands).1

-- there is a path that is not historical
stored : (c : goal.After-self-2-1) → (1 ≤ c.self.inside.pending)
    × IsStored (with_mark (view_of c.self.inside) c.args.id c.add_star.new.self) c.self.inside.heaps
    (c.self.inside.historical + 1) (c.self.inside.pending - 1)
stored c =
    let waits = subst (λ (b : Book). IsMarked b c.args.id → ⊥) (sym c.self.view_is) c.requires.pending in
    stored_promoted (view_of c.self.inside) c.args.id c.self.invariant.stored.book
    (pending_has_edge (view_of c.self.inside) c.args.id c.self.invariant.stored.book
    (subst (λ (b : Book). IsLive b.arena c.args.id) (sym c.self.view_is) c.requires.live) waits)
    waits c.add_star.new.self
    (is_starred (view_of c.self.inside) c.args.id c.left_part-left.result c.right_part-right.result c.add_star.new.self
    c.left_part-left.ensures.value c.right_part-right.ensures.value c.in_ok-add_star.ensures.ok)
    c.self.inside.heaps _ _ c.self.invariant.stored

starred_now : (c : goal.After-self-3-1) → IsStarred (view_of c.self.inside).lists c.add_star.new.self c.args.id
    (left_id (path_of (view_of c.self.inside).arena c.args.id))
    (right_id (path_of (view_of c.self.inside).arena c.args.id))
starred_now c =
    is_starred (view_of c.self.inside) c.args.id c.left_part-left.result c.right_part-right.result c.add_star.new.self
    c.left_part-left.ensures.value c.right_part-right.ensures.value c.in_ok-add_star.ensures.ok

stored_now : (c : goal.After-self-3-1) → IsStored (with_mark (view_of c.self.inside) c.args.id c.add_star.new.self)
    c.self.inside.heaps (c.self.inside.historical + 1) (c.self.inside.pending - 1)
stored_now c =
    let waits = subst (λ (b : Book). IsMarked b c.args.id → ⊥) (sym c.self.view_is) c.requires.pending in
    (stored_promoted (view_of c.self.inside) c.args.id c.self.invariant.stored.book
    (pending_has_edge (view_of c.self.inside) c.args.id c.self.invariant.stored.book
    (subst (λ (b : Book). IsLive b.arena c.args.id) (sym c.self.view_is) c.requires.live) waits)
    waits c.add_star.new.self (starred_now c) c.self.inside.heaps _ _ c.self.invariant.stored).1

pub overflow_sub-self : goal.overflow_sub-self
overflow_sub-self c = (stored c).0

-- the marks and the lists are those of the book with the mark
same : (c : goal.After-self-3-1) → ◌≡◌ {A = Book}
    (record {
      arena = c.self.inside.arena;
      marked = marked_in
          (slice_set c.make_room.new.marks.items c.key-2.result true);
      lists = c.add_star.new.self;
    })
    (with_mark (view_of c.self.inside) c.args.id c.add_star.new.self)
same c =
    is_promoted (view_of c.self.inside) c.make_room.new.marks.items c.args.id c.key-2.result c.add_star.new.self
    c.in_ok-make_room.ensures.same c.key-2.ensures.value
    (omega (
      arith,
      c.in_ok-make_room.ensures.room,
      c.key.ensures.value,
      c.key-2.ensures.value,
      c.make_room.new.marks.ok,
    ))

pub invariant_of-self-2 : goal.invariant_of-self-2
invariant_of-self-2 c = record {
  stored = subst (λ (b : Book). IsStored b c.self.inside.heaps (c.self.inside.historical + 1)
      (c.self.inside.pending - 1)) (sym (same c)) (stored_now c);
  dirty = subst (λ (b : Book). IsClean b c.self.inside.dirty) (sym (same c))
      (clean_promoted (view_of c.self.inside) c.args.id c.add_star.new.self c.self.inside.dirty c.self.invariant.dirty);
}

pub returns-clause-marked : goal.returns-clause-marked
returns-clause-marked c = same c ∙ ap (λ (b : Book). with_mark b c.args.id c.add_star.new.self) c.self.view_is

pub returns-clause-starred : goal.returns-clause-starred
returns-clause-starred c =
    subst (λ (b : Book). IsStarred b.lists c.add_star.new.self c.args.id (left_id (path_of b.arena c.args.id))
    (right_id (path_of b.arena c.args.id))) c.self.view_is (starred_now c)

pub returns-clause-lawful : goal.returns-clause-lawful
returns-clause-lawful c = subst IsBook (sym (same c)) (stored_now c).book
