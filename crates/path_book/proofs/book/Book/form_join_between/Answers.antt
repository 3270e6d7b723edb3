use Rattle.std.proofs.Common.{Some, ◌≡◌, ◌≢◌, ◌≤◌, ◌+◌, ◌^◌, refl, sym, ◌∙◌, ap, subst, arith}
use Rattle.apsp_model.specs.Walk.{first, last}
use Rattle.path_arena.specs.Arena.{Arena, list_of, CanJoin, joined_path, IsArena}
use Rattle.path_book.specs.Book.{Book, IsMarked, with_kept, IsNewList, IsBook}
use Rattle.path_book.specs.Layout.{view_of, IsStored, IsClean}
use Rattle.path_book.specs.Dirty.{Dirty}
use Rattle.path_book.proofs.Formed.{IsNew}
use Rattle.path_book.proofs.Forms.{join_known, stored_reserved, AsksMet, asks_met, IsFormed, is_formed, is_taken_back, on_err, new_join, join_ends, told_at}
use Rattle.path_book.proofs.Readers.{tells_kept}
use Rattle.path_book.proofs.Clean.{clean_all}
use Rattle.path_book.proofs.book.Book.form_join_between.Goals as goal

pub reserve_room-requires : goal.reserve_room-requires
reserve_room-requires c =
    let ends =
    join_ends c.self.inside.arena c.self.inside.heaps c.args.l c.args.r 0 _ _ c.self.invariant.stored.book.arena
    c.self.invariant.stored.heaps.fits
    (subst (λ (b : Book). CanJoin b.arena c.args.l c.args.r) (sym c.self.view_is) c.requires.join)
    (subst (λ (b : Book). first (list_of b.arena c.args.l) ≡ Some c.args.from) (sym c.self.view_is) c.requires.from)
    (subst (λ (b : Book). last (list_of b.arena c.args.r) ≡ Some c.args.to) (sym c.self.view_is) c.requires.to) in
    record { from = ends.from; to = ends.to }

-- after there is room in the heap
reserved : (c : goal.After-from_residual-in_err-id)
    → IsStored (view_of c.self.inside) c.reserve_room.new.self c.self.inside.historical c.self.inside.pending
reserved c =
    stored_reserved (view_of c.self.inside) c.self.inside.heaps c.reserve_room.new.self c.args.from c.args.to _ _
    c.self.invariant.stored (c.reserve_room.ensures.fits c.self.inside.arena).0 c.in_ok-room.ensures.ok

pub invariant_of-self-in_err-id : goal.invariant_of-self-in_err-id
invariant_of-self-in_err-id c = record {
  stored = subst (λ (a : Arena). IsStored
      (record { arena = a; marked = (view_of c.self.inside).marked; lists = c.self.inside.lists })
      c.reserve_room.new.self c.self.inside.historical c.self.inside.pending) (sym c.in_err-id.ensures.memory)
      (reserved c);
  dirty = subst (λ (a : Arena). IsClean (record
      { arena = a; marked = (view_of c.self.inside).marked; lists = c.self.inside.lists }) c.self.inside.dirty)
      (sym c.in_err-id.ensures.memory) c.self.invariant.dirty;
}

pub admit_known-requires : goal.admit_known-requires
admit_known-requires c =
    let new : IsNew (view_of c.self.inside) c.in_ok-id.id
    (joined_path c.self.inside.arena c.args.l c.args.r c.args.birth) =
    new_join (view_of c.self.inside) c.in_ok-id.id c.args.l c.args.r c.args.birth
    (subst (λ (b : Book). IsMarked b c.args.l) (sym c.self.view_is) c.requires.left)
    (subst (λ (b : Book). IsMarked b c.args.r) (sym c.self.view_is) c.requires.right)
    c.in_ok-id.ensures.fresh (subst (λ (b : Book). IsNewList b
    (joined_path b.arena c.args.l c.args.r c.args.birth).list) (sym c.self.view_is) c.requires.new)
    (subst IsArena c.in_ok-id.ensures.added c.in_ok-id.ensures.lawful) in
    let ends =
    join_ends c.self.inside.arena c.self.inside.heaps c.args.l c.args.r c.args.birth _ _
    c.self.invariant.stored.book.arena c.self.invariant.stored.heaps.fits
    (subst (λ (b : Book). CanJoin b.arena c.args.l c.args.r) (sym c.self.view_is) c.requires.join)
    (subst (λ (b : Book). first (list_of b.arena c.args.l) ≡ Some c.args.from) (sym c.self.view_is) c.requires.from)
    (subst (λ (b : Book). last (list_of b.arena c.args.r) ≡ Some c.args.to) (sym c.self.view_is) c.requires.to) in
    let a : AsksMet (view_of c.self.inside) c.join.new.self c.reserve_room.new.self c.in_ok-id.id =
    asks_met (view_of c.self.inside) c.in_ok-id.id _ c.self.inside.heaps c.reserve_room.new.self c.args.from c.args.to _
    _ c.join.new.self c.self.invariant.stored new c.in_ok-id.ensures.added
    (c.reserve_room.ensures.fits c.self.inside.arena).0 c.in_ok-room.ensures.ok ends.begins ends.finishes in
    record {
      lawful = a.lawful;
      edge = a.edge;
      free = a.free;
      room = a.room;
      new = a.new;
      lists = a.lists;
      known = join_known (view_of c.self.inside) c.in_ok-id.id c.args.l c.args.r c.args.birth c.in_ok-room.room
          c.join.new.self c.self.invariant.stored.book new c.in_ok-id.ensures.added
          (ends.begins ∙ ap Some (sym c.in_ok-room.ensures.from))
          (ends.finishes ∙ ap Some (sym c.in_ok-room.ensures.to));
      here = c.in_ok-room.ensures.room;
    }

-- without memory for it the book is as before
as_before : (c : goal.After-from_residual-in_err-is_least)
    → ◌≡◌ {A = Book} (record {
      arena = c.admit_known.new.arena;
      marked = (view_of c.self.inside).marked;
      lists
          = c.admit_known.new.lists;
    }) (view_of c.self.inside)
as_before c =
    is_taken_back (view_of c.self.inside) c.in_ok-id.id _ c.join.new.self c.admit_known.new.arena
    c.admit_known.new.lists c.in_ok-id.ensures.fresh c.in_ok-id.ensures.added c.in_err-is_least.ensures.taken_back
    c.in_err-is_least.ensures.lists_kept

pub invariant_of-self-in_err-is_least : goal.invariant_of-self-in_err-is_least
invariant_of-self-in_err-is_least c = record {
  stored =
      subst (λ (b : Book). IsStored b c.admit_known.new.heaps c.self.inside.historical c.self.inside.pending)
      (sym (as_before c))
      (subst (λ h. IsStored (view_of c.self.inside) h c.self.inside.historical c.self.inside.pending)
      (sym c.in_err-is_least.ensures.heaps_kept)
      (stored_reserved (view_of c.self.inside) c.self.inside.heaps c.reserve_room.new.self c.args.from c.args.to _ _
      c.self.invariant.stored (c.reserve_room.ensures.fits c.self.inside.arena).0 c.in_ok-room.ensures.ok));
  dirty = subst (λ (b : Book). IsClean b c.self.inside.dirty) (sym (as_before c)) c.self.invariant.dirty;
}

pub returns-in_err-is_least-clause-lawful : goal.returns-in_err-is_least-clause-lawful
returns-in_err-is_least-clause-lawful c = subst IsBook (sym (as_before c)) c.self.invariant.stored.book

pub returns-in_err-is_least-clause-memory : goal.returns-in_err-is_least-clause-memory
returns-in_err-is_least-clause-memory c = on_err c.from_residual-in_err-is_least.result (as_before c ∙ c.self.view_is)

-- .. as it is when all is done
made : (c : goal.After-self-1) → IsNew (view_of c.self.inside) c.in_ok-id.id
    (joined_path c.self.inside.arena c.args.l c.args.r c.args.birth)
made c =
    new_join (view_of c.self.inside) c.in_ok-id.id c.args.l c.args.r c.args.birth
    (subst (λ (b : Book). IsMarked b c.args.l) (sym c.self.view_is) c.requires.left)
    (subst (λ (b : Book). IsMarked b c.args.r) (sym c.self.view_is) c.requires.right)
    c.in_ok-id.ensures.fresh (subst (λ (b : Book). IsNewList b
    (joined_path b.arena c.args.l c.args.r c.args.birth).list) (sym c.self.view_is) c.requires.new)
    (subst IsArena c.in_ok-id.ensures.added c.in_ok-id.ensures.lawful)

-- with memory it is formed
formed : (c : goal.After-self-1) → IsFormed (view_of c.self.inside) c.admit_known.new.arena c.admit_known.new.lists
    c.admit_known.new.heaps c.in_ok-id.id (joined_path c.self.inside.arena c.args.l c.args.r c.args.birth)
    c.self.inside.historical c.self.inside.pending
formed c =
    is_formed (view_of c.self.inside) c.in_ok-id.id _ c.reserve_room.new.self c.admit_known.new.heaps _ _
    c.join.new.self c.admit_known.new.arena c.admit_known.new.lists
    (stored_reserved (view_of c.self.inside) c.self.inside.heaps c.reserve_room.new.self c.args.from c.args.to _ _
    c.self.invariant.stored (c.reserve_room.ensures.fits c.self.inside.arena).0 c.in_ok-room.ensures.ok)
    (made c)
    c.in_ok-id.ensures.added c.in_ok-is_least.ensures.kept c.in_ok-is_least.ensures.admitted
    (let most : c.self.inside.historical + c.self.inside.pending ≤ 2 ^ 48 = c.self.invariant.stored.most in
    let apart : c.self.inside.historical + c.self.inside.pending ≢ 2 ^ 48 = c.if-self-eq-MOST_PATHS.false in
    omega arith)

pub invariant_of-self-2 : goal.invariant_of-self-2
invariant_of-self-2 c = record {
  stored = (formed c).stored;
  dirty =
      subst (λ (b : Book). IsClean b c.note_all.new.self) (sym (formed c).same)
      (subst (λ (d : Dirty). IsClean (with_kept (view_of c.self.inside) c.in_ok-id.id
      (joined_path c.self.inside.arena c.args.l c.args.r c.args.birth)) d) (sym c.note_all.ensures)
      (clean_all (view_of c.self.inside) _ c.self.inside.dirty c.self.invariant.dirty refl));
}

pub returns-clause-formed : goal.returns-clause-formed
returns-clause-formed c =
    (formed c).same ∙ ap (λ (b : Book). with_kept b c.in_ok-id.id (joined_path b.arena c.args.l c.args.r c.args.birth))
    c.self.view_is

pub returns-clause-lawful : goal.returns-clause-lawful
returns-clause-lawful c = (formed c).stored.book

pub returns-clause-least : goal.returns-clause-least
returns-clause-least c =
    let new : IsNew (view_of c.self.inside) c.in_ok-id.id
    (joined_path c.self.inside.arena c.args.l c.args.r c.args.birth) =
    new_join (view_of c.self.inside) c.in_ok-id.id c.args.l c.args.r c.args.birth
    (subst (λ (b : Book). IsMarked b c.args.l) (sym c.self.view_is) c.requires.left)
    (subst (λ (b : Book). IsMarked b c.args.r) (sym c.self.view_is) c.requires.right)
    c.in_ok-id.ensures.fresh (subst (λ (b : Book). IsNewList b
    (joined_path b.arena c.args.l c.args.r c.args.birth).list) (sym c.self.view_is) c.requires.new)
    (subst IsArena c.in_ok-id.ensures.added c.in_ok-id.ensures.lawful) in
    let ends =
    join_ends c.self.inside.arena c.self.inside.heaps c.args.l c.args.r c.args.birth _ _
    c.self.invariant.stored.book.arena c.self.invariant.stored.heaps.fits
    (subst (λ (b : Book). CanJoin b.arena c.args.l c.args.r) (sym c.self.view_is) c.requires.join)
    (subst (λ (b : Book). first (list_of b.arena c.args.l) ≡ Some c.args.from) (sym c.self.view_is) c.requires.from)
    (subst (λ (b : Book). last (list_of b.arena c.args.r) ≡ Some c.args.to) (sym c.self.view_is) c.requires.to) in
    let a : AsksMet (view_of c.self.inside) c.join.new.self c.reserve_room.new.self c.in_ok-id.id =
    asks_met (view_of c.self.inside) c.in_ok-id.id _ c.self.inside.heaps c.reserve_room.new.self c.args.from c.args.to _
    _ c.join.new.self c.self.invariant.stored new c.in_ok-id.ensures.added
    (c.reserve_room.ensures.fits c.self.inside.arena).0 c.in_ok-room.ensures.ok ends.begins ends.finishes in
    tells_kept _ c.admit_known.new.heaps c.reserve_room.new.self _ _ c.args.from c.args.to c.in_ok-id.id
    c.in_ok-is_least.is_least (formed c).stored
    (told_at c.in_ok-room.room c.args.from c.args.to _ c.in_ok-is_least.is_least c.admit_known.new.heaps
    c.reserve_room.new.self c.in_ok-id.id c.in_ok-room.ensures.from c.in_ok-room.ensures.to
    c.in_ok-is_least.ensures.least) a.new
