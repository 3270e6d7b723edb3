use Rattle.std.proofs.Common.{Some, ◌≡◌, ◌≢◌, ◌<◌, ◌≤◌, ◌+◌, ◌^◌, ◌∷◌, [], refl, sym, ◌∙◌, ap, subst, arith}
use Rattle.path_arena.specs.Arena.{Arena, edge_path, IsArena}
use Rattle.path_book.specs.Book.{Book, with_kept, IsNewList, IsBook}
use Rattle.path_book.specs.Layout.{view_of, IsStored, IsClean}
use Rattle.path_book.proofs.Formed.{IsNew}
use Rattle.path_book.proofs.Forms.{stored_reserved, AsksMet, asks_met, IsFormed, is_formed, is_taken_back, on_err, new_edge, new_ends}
use Rattle.path_book.proofs.Clean.{clean_formed}
use Rattle.path_book.proofs.book.Book.form_edge.Goals as goal

-- after there is room in the heap
reserved : (c : goal.After-from_residual-in_err-id)
    → IsStored (view_of c.self.inside) c.reserve_room.new.self c.self.inside.historical c.self.inside.pending
reserved c =
    stored_reserved (view_of c.self.inside) c.self.inside.heaps c.reserve_room.new.self c.args.u c.args.v _ _
    c.self.invariant.stored (c.reserve_room.ensures.fits c.self.inside.arena).0 c.in_ok-room.ensures.ok

pub invariant_of-self-in_err-id : goal.invariant_of-self-in_err-id
invariant_of-self-in_err-id c = record {
  stored = subst (λ (a : Arena). IsStored
      (record { arena = a; marked = (view_of c.self.inside).marked; lists = c.self.inside.lists })
      c.reserve_room.new.self c.self.inside.historical c.self.inside.pending) (sym c.in_err-id.ensures.memory)
      (reserved c);
  dirty = subst (λ (a : Arena). IsClean (record
      { arena = a; marked = (view_of c.self.inside).marked; lists = c.self.inside.lists }) c.self.inside.dirty)
      (sym c.in_err-id.ensures.memory) c.self.invariant.dirty;
}

-- the new path in the old book
new : (c : goal.After-admit-arg-3-1) → IsNew (view_of c.self.inside) c.in_ok-id.id
    (edge_path c.self.inside.arena c.args.u c.args.v c.args.w c.args.birth)
new c =
    new_edge (view_of c.self.inside) c.in_ok-id.id c.args.u c.args.v c.args.w c.args.birth c.self.invariant.stored.book
    (subst (λ (b : Book). c.args.u < b.arena.vertices) (sym c.self.view_is) c.requires.from)
    (subst (λ (b : Book). c.args.v < b.arena.vertices) (sym c.self.view_is) c.requires.to)
    c.in_ok-id.ensures.fresh (subst (λ (b : Book). IsNewList b (c.args.u ∷ c.args.v ∷ [])) (sym c.self.view_is)
    c.requires.new)
    (subst IsArena c.in_ok-id.ensures.added c.in_ok-id.ensures.lawful)

asks : (c : goal.After-admit-arg-3-1) → AsksMet (view_of c.self.inside) c.edge.new.self c.reserve_room.new.self
    c.in_ok-id.id
asks c = asks_met (view_of c.self.inside) c.in_ok-id.id _ c.self.inside.heaps c.reserve_room.new.self c.args.u c.args.v
    _ _ c.edge.new.self c.self.invariant.stored (new c) c.in_ok-id.ensures.added
    (c.reserve_room.ensures.fits c.self.inside.arena).0 c.in_ok-room.ensures.ok refl refl

pub admit-requires : goal.admit-requires
admit-requires c =
    let a = asks c in
    record {
      lawful = a.lawful;
      edge = a.edge;
      free = a.free;
      room = a.room;
      here = c.in_ok-room.ensures.room;
      ends = new_ends (view_of c.self.inside) c.in_ok-id.id _ c.edge.new.self c.in_ok-room.room.x c.in_ok-room.room.y
          c.self.invariant.stored.book (new c) c.in_ok-id.ensures.added (ap Some (sym c.in_ok-room.ensures.from))
          (ap Some (sym c.in_ok-room.ensures.to));
      new = a.new;
      lists = a.lists;
    }

-- without memory for it the book is as before
as_before : (c : goal.After-from_residual-in_err-admit)
    → ◌≡◌ {A = Book} (record {
      arena = c.admit.new.arena;
      marked = (view_of c.self.inside).marked;
      lists
          = c.admit.new.lists;
    }) (view_of c.self.inside)
as_before c =
    is_taken_back (view_of c.self.inside) c.in_ok-id.id _ c.edge.new.self c.admit.new.arena c.admit.new.lists
    c.in_ok-id.ensures.fresh c.in_ok-id.ensures.added c.in_err-admit.ensures.taken_back
    c.in_err-admit.ensures.lists_kept

pub invariant_of-self-in_err-admit : goal.invariant_of-self-in_err-admit
invariant_of-self-in_err-admit c = record {
  stored =
      subst (λ (b : Book). IsStored b c.admit.new.heaps c.self.inside.historical c.self.inside.pending)
      (sym (as_before c))
      (subst (λ h. IsStored (view_of c.self.inside) h c.self.inside.historical c.self.inside.pending)
      (sym c.in_err-admit.ensures.heaps_kept)
      (stored_reserved (view_of c.self.inside) c.self.inside.heaps c.reserve_room.new.self c.args.u c.args.v _ _
      c.self.invariant.stored (c.reserve_room.ensures.fits c.self.inside.arena).0 c.in_ok-room.ensures.ok));
  dirty = subst (λ (b : Book). IsClean b c.self.inside.dirty) (sym (as_before c)) c.self.invariant.dirty;
}

pub returns-in_err-admit-clause-lawful : goal.returns-in_err-admit-clause-lawful
returns-in_err-admit-clause-lawful c = subst IsBook (sym (as_before c)) c.self.invariant.stored.book

pub returns-in_err-admit-clause-memory : goal.returns-in_err-admit-clause-memory
returns-in_err-admit-clause-memory c = on_err c.from_residual-in_err-admit.result (as_before c ∙ c.self.view_is)

-- .. as it is when all is done
made : (c : goal.After-self-1) → IsNew (view_of c.self.inside) c.in_ok-id.id
    (edge_path c.self.inside.arena c.args.u c.args.v c.args.w c.args.birth)
made c =
    new_edge (view_of c.self.inside) c.in_ok-id.id c.args.u c.args.v c.args.w c.args.birth c.self.invariant.stored.book
    (subst (λ (b : Book). c.args.u < b.arena.vertices) (sym c.self.view_is) c.requires.from)
    (subst (λ (b : Book). c.args.v < b.arena.vertices) (sym c.self.view_is) c.requires.to)
    c.in_ok-id.ensures.fresh (subst (λ (b : Book). IsNewList b (c.args.u ∷ c.args.v ∷ [])) (sym c.self.view_is)
    c.requires.new)
    (subst IsArena c.in_ok-id.ensures.added c.in_ok-id.ensures.lawful)

-- with memory it is formed
formed : (c : goal.After-self-1) → IsFormed (view_of c.self.inside) c.admit.new.arena c.admit.new.lists
    c.admit.new.heaps c.in_ok-id.id (edge_path c.self.inside.arena c.args.u c.args.v c.args.w c.args.birth)
    c.self.inside.historical c.self.inside.pending
formed c =
    is_formed (view_of c.self.inside) c.in_ok-id.id _ c.reserve_room.new.self c.admit.new.heaps _ _ c.edge.new.self
    c.admit.new.arena c.admit.new.lists
    (stored_reserved (view_of c.self.inside) c.self.inside.heaps c.reserve_room.new.self c.args.u c.args.v _ _
    c.self.invariant.stored (c.reserve_room.ensures.fits c.self.inside.arena).0 c.in_ok-room.ensures.ok)
    (made c)
    c.in_ok-id.ensures.added c.in_ok-admit.ensures.kept c.in_ok-admit.ensures.admitted
    (let most : c.self.inside.historical + c.self.inside.pending ≤ 2 ^ 48 = c.self.invariant.stored.most in
    let apart : c.self.inside.historical + c.self.inside.pending ≢ 2 ^ 48 = c.if-self-eq-MOST_PATHS.false in
    omega arith)

pub invariant_of-self-2 : goal.invariant_of-self-2
invariant_of-self-2 c = record {
  stored = (formed c).stored;
  dirty =
      subst (λ (b : Book). IsClean b c.note.new.self) (sym (formed c).same)
      (clean_formed (view_of c.self.inside) c.in_ok-id.id _ c.self.inside.dirty c.note.new.self c.args.u c.args.v
      c.self.invariant.stored.book (made c) c.self.invariant.dirty c.note.ensures refl refl);
}

pub returns-clause-formed : goal.returns-clause-formed
returns-clause-formed c =
    (formed c).same ∙ ap (λ (b : Book). with_kept b c.in_ok-id.id
    (edge_path b.arena c.args.u c.args.v c.args.w c.args.birth)) c.self.view_is

pub returns-clause-lawful : goal.returns-clause-lawful
returns-clause-lawful c = (formed c).stored.book
