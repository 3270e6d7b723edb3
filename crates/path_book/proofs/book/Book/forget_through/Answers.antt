use Rattle.std.proofs.Common.{◌≡◌, ◌==◌, ◌<◌, ◌-◌, ℕ, List, [], ◌∷◌, false, length, if◌then◌else◌, refl, sym, subst, arith}
use Rattle.pair_heaps.proofs.Places.{ends_inside}
use Rattle.extension_lists.specs.Known.{IsKnown}
use Rattle.path_book.specs.Layout.{view_of, marked_in, mark_at}
use Rattle.path_book.proofs.Through.{IsForgetting, forgetting_none, longest_edge, longest_live, longest_free, longest_held, left_known, right_known, still_known, some_before, forgetting_more, single_known, laid_out, all_forgotten}
use Rattle.path_book.proofs.book.Book.forget_through.Goals as goal

pub longest-init : goal.longest-init
longest-init c =
    forgetting_none (view_of c.self.inside) c.args.self.now c.args.v c.args.ids.now c.self.inside.heaps
    c.self.inside.dirty c.self.inside.historical c.self.inside.pending c.self.invariant c.self.view_is c.requires.vertex
    c.requires.ids

pub first-from-requires : goal.first-from-requires
first-from-requires c =
    longest_live (view_of c.self.inside) c.args.v c.args.ids.now c.longest.rest.now c.in-Some.shorter.now
    (view_of c.longest.self-inside) c.longest.self-inside.heaps c.longest.self-inside.dirty
    c.longest.self-inside.historical c.longest.self-inside.pending c.in-Some.field-0-0.now c.longest.invariant
    c.in-Some.ensures.cases.0

pub left_part-left-requires : goal.left_part-left-requires
left_part-left-requires c =
    longest_edge (view_of c.self.inside) c.args.v c.args.ids.now c.longest.rest.now c.in-Some.shorter.now
    (view_of c.longest.self-inside) c.longest.self-inside.heaps c.longest.self-inside.dirty
    c.longest.self-inside.historical c.longest.self-inside.pending c.in-Some.field-0-0.now c.longest.invariant
    c.in-Some.ensures.cases.0

-- the ends of the path are vertices
inside : (c : goal.After-note-arg-1) → (c.first-from.result < c.longest.self-inside.arena.vertices)
    × (c.last-to.result < c.longest.self-inside.arena.vertices)
inside c =
    ends_inside c.longest.self-inside.arena c.in-Some.field-0-0.now c.first-from.result c.last-to.result
    c.longest.invariant.stored.book.arena
    (longest_live (view_of c.self.inside) c.args.v c.args.ids.now c.longest.rest.now c.in-Some.shorter.now
    (view_of c.longest.self-inside) c.longest.self-inside.heaps c.longest.self-inside.dirty
    c.longest.self-inside.historical c.longest.self-inside.pending c.in-Some.field-0-0.now c.longest.invariant
    c.in-Some.ensures.cases.0) (c.first-from.ensures.value, c.last-to.ensures.value)

pub note-requires-clause-from : goal.note-requires-clause-from
note-requires-clause-from c = subst (λ n. c.first-from.result < n) c.longest.invariant.clean.vertices (inside c).0

pub note-requires-clause-to : goal.note-requires-clause-to
note-requires-clause-to c = subst (λ n. c.last-to.result < n) c.longest.invariant.clean.vertices (inside c).1

pub remove_between-requires-clause-from : goal.remove_between-requires-clause-from
remove_between-requires-clause-from c =
    subst (λ n. c.first-from.result < n) c.longest.invariant.stored.heaps.fits.vertices
    (ends_inside c.longest.self-inside.arena c.in-Some.field-0-0.now c.first-from.result c.last-to.result
    c.longest.invariant.stored.book.arena
    (longest_live (view_of c.self.inside) c.args.v c.args.ids.now c.longest.rest.now c.in-Some.shorter.now
    (view_of c.longest.self-inside) c.longest.self-inside.heaps c.longest.self-inside.dirty
    c.longest.self-inside.historical c.longest.self-inside.pending c.in-Some.field-0-0.now c.longest.invariant
    c.in-Some.ensures.cases.0) (c.first-from.ensures.value, c.last-to.ensures.value)).0

pub remove_between-requires-clause-to : goal.remove_between-requires-clause-to
remove_between-requires-clause-to c =
    subst (λ n. c.last-to.result < n) c.longest.invariant.stored.heaps.fits.vertices
    (ends_inside c.longest.self-inside.arena c.in-Some.field-0-0.now c.first-from.result c.last-to.result
    c.longest.invariant.stored.book.arena
    (longest_live (view_of c.self.inside) c.args.v c.args.ids.now c.longest.rest.now c.in-Some.shorter.now
    (view_of c.longest.self-inside) c.longest.self-inside.heaps c.longest.self-inside.dirty
    c.longest.self-inside.historical c.longest.self-inside.pending c.in-Some.field-0-0.now c.longest.invariant
    c.in-Some.ensures.cases.0) (c.first-from.ensures.value, c.last-to.ensures.value)).1

pub remove_between-requires-clause-fits : goal.remove_between-requires-clause-fits
remove_between-requires-clause-fits c = c.longest.invariant.stored.heaps.fits

pub remove_between-requires-clause-held : goal.remove_between-requires-clause-held
remove_between-requires-clause-held c =
    longest_held (view_of c.self.inside) c.args.v c.args.ids.now c.longest.rest.now c.in-Some.shorter.now
    (view_of c.longest.self-inside) c.longest.self-inside.heaps c.longest.self-inside.dirty
    c.longest.self-inside.historical c.longest.self-inside.pending c.in-Some.field-0-0.now c.longest.invariant
    c.in-Some.ensures.cases.0

pub leave_right-requires : goal.leave_right-requires
leave_right-requires c =
    right_known (view_of c.self.inside) c.args.v c.args.ids.now c.longest.rest.now c.in-Some.shorter.now
    (view_of c.longest.self-inside) c.longest.self-inside.heaps c.longest.self-inside.dirty
    c.longest.self-inside.historical c.longest.self-inside.pending c.in-Some.field-0-0.now c.longest.invariant
    c.in-Some.ensures.cases.0 c.right_part-right.result c.right_part-right.ensures.value

pub leave_left-requires : goal.leave_left-requires
leave_left-requires c =
    (still_known (view_of c.self.inside) c.args.v c.args.ids.now c.longest.rest.now c.in-Some.shorter.now
    (view_of c.longest.self-inside) c.longest.self-inside.heaps c.longest.self-inside.dirty
    c.longest.self-inside.historical c.longest.self-inside.pending c.in-Some.field-0-0.now c.longest.invariant
    c.in-Some.ensures.cases.0 c.leave_right.new.lists c.leave_right.new.lists c.left_part-left.result
    c.right_part-right.result (c.first-from.result == c.args.v) false c.leave_right.ensures refl c.left_part-left.result
    (left_known (view_of c.self.inside) c.args.v c.args.ids.now c.longest.rest.now c.in-Some.shorter.now
    (view_of c.longest.self-inside) c.longest.self-inside.heaps c.longest.self-inside.dirty
    c.longest.self-inside.historical c.longest.self-inside.pending c.in-Some.field-0-0.now c.longest.invariant
    c.in-Some.ensures.cases.0 c.left_part-left.result c.left_part-left.ensures.value)).0

pub forget-requires : goal.forget-requires
forget-requires c =
    (still_known (view_of c.self.inside) c.args.v c.args.ids.now c.longest.rest.now c.in-Some.shorter.now
    (view_of c.longest.self-inside) c.longest.self-inside.heaps c.longest.self-inside.dirty
    c.longest.self-inside.historical c.longest.self-inside.pending c.in-Some.field-0-0.now c.longest.invariant
    c.in-Some.ensures.cases.0 c.leave_right.new.lists c.leave_left.new.lists c.left_part-left.result
    c.right_part-right.result (c.first-from.result == c.args.v) (c.last-to.result == c.args.v) c.leave_right.ensures
    c.leave_left.ensures c.in-Some.field-0-0.now
    ((c.longest.invariant.listed.known c.in-Some.field-0-0.now).1
    (longest_live (view_of c.self.inside) c.args.v c.args.ids.now c.longest.rest.now c.in-Some.shorter.now
    (view_of c.longest.self-inside) c.longest.self-inside.heaps c.longest.self-inside.dirty
    c.longest.self-inside.historical c.longest.self-inside.pending c.in-Some.field-0-0.now c.longest.invariant
    c.in-Some.ensures.cases.0))).1

pub remove-requires-clause-free : goal.remove-requires-clause-free
remove-requires-clause-free c =
    longest_free (view_of c.self.inside) c.args.v c.args.ids.now c.longest.rest.now c.in-Some.shorter.now
    (view_of c.longest.self-inside) c.longest.self-inside.heaps c.longest.self-inside.dirty
    c.longest.self-inside.historical c.longest.self-inside.pending c.in-Some.field-0-0.now c.longest.invariant
    c.in-Some.ensures.cases.0

pub uncount-requires : goal.uncount-requires
uncount-requires c =
    some_before (view_of c.self.inside) c.args.v c.args.ids.now c.longest.rest.now c.in-Some.shorter.now
    (view_of c.longest.self-inside) c.longest.self-inside.heaps c.longest.self-inside.dirty
    c.longest.self-inside.historical c.longest.self-inside.pending c.in-Some.field-0-0.now c.longest.invariant
    c.in-Some.ensures.cases.0 c.key-key.result c.longest.self-inside.marks.items refl c.key-key.ensures.value

pub longest-smaller : goal.longest-smaller
longest-smaller c = omega (arith, c.in-Some.ensures.cases.1)

pub longest-preserved : goal.longest-preserved
longest-preserved c =
    subst (λ h. IsForgetting (view_of c.self.inside) c.args.v c.args.ids.now c.in-Some.shorter.now
    (record { arena = c.remove.new.self; marked = marked_in c.uncount.new.marks.items; lists = c.forget.new.self })
    c.remove_between.new.self c.note.new.self h c.uncount.new.unmarked) (sym c.uncount.ensures.marked)
    (subst (λ p. IsForgetting (view_of c.self.inside) c.args.v c.args.ids.now c.in-Some.shorter.now
    (record { arena = c.remove.new.self; marked = marked_in c.uncount.new.marks.items; lists = c.forget.new.self })
    c.remove_between.new.self c.note.new.self
    (if mark_at c.longest.self-inside.marks.items c.key-key.result then c.longest.self-inside.historical - 1 else
    c.longest.self-inside.historical) p) (sym c.uncount.ensures.unmarked)
    (forgetting_more (view_of c.self.inside) c.args.v c.args.ids.now c.longest.rest.now c.in-Some.shorter.now
    (view_of c.longest.self-inside) c.longest.self-inside.heaps c.longest.self-inside.dirty
    c.longest.self-inside.historical c.longest.self-inside.pending c.in-Some.field-0-0.now c.longest.invariant
    c.in-Some.ensures.cases.0 c.key-key.result c.remove_between.new.self c.note.new.self c.remove.new.self
    c.first-from.result c.last-to.result c.left_part-left.result c.right_part-right.result c.leave_right.new.lists
    c.leave_left.new.lists c.forget.new.self c.longest.self-inside.marks.items c.uncount.new.marks.items refl
    c.key-key.ensures.value c.remove.ensures.removed c.remove_between.ensures.fits c.remove_between.ensures.removed
    c.uncount.ensures.cleared c.first-from.ensures.value c.last-to.ensures.value c.left_part-left.ensures.value
    c.right_part-right.ensures.value c.leave_right.ensures c.leave_left.ensures c.forget.ensures c.note.ensures))

nothing_left : (xs : List ℕ) → length xs ≡ 0 → xs ≡ []
nothing_left [] e = refl
nothing_left (x ∷ xs) e = absurd (omega arith)

pub vertex-requires : goal.vertex-requires
vertex-requires c = c.longest.invariant.inside

pub clear-requires : goal.clear-requires
clear-requires c =
    subst (IsKnown c.longest.self-inside.lists) (sym c.vertex.ensures.value)
    (single_known (view_of c.self.inside) c.args.v c.args.ids.now c.longest.rest.now (view_of c.longest.self-inside)
    c.longest.self-inside.heaps c.longest.self-inside.dirty c.longest.self-inside.historical
    c.longest.self-inside.pending c.longest.invariant (nothing_left c.longest.rest.now c.in_default.ensures.cases))

pub invariant_of-self : goal.invariant_of-self
invariant_of-self c =
    laid_out (view_of c.self.inside) c.args.v c.args.ids.now c.longest.rest.now (view_of c.longest.self-inside)
    c.longest.self-inside.heaps c.longest.self-inside.dirty c.longest.self-inside.historical
    c.longest.self-inside.pending c.longest.invariant (nothing_left c.longest.rest.now c.in_default.ensures.cases)
    c.vertex.result c.clear.new.self c.vertex.ensures.value c.clear.ensures

pub returns-clause-forgotten : goal.returns-clause-forgotten
returns-clause-forgotten c =
    all_forgotten (view_of c.self.inside) c.args.v c.args.ids.now c.longest.rest.now (view_of c.longest.self-inside)
    c.longest.self-inside.heaps c.longest.self-inside.dirty c.longest.self-inside.historical
    c.longest.self-inside.pending c.longest.invariant (nothing_left c.longest.rest.now c.in_default.ensures.cases)
    c.vertex.result c.clear.new.self c.vertex.ensures.value c.clear.ensures c.args.self.now c.self.view_is

pub returns-clause-lawful : goal.returns-clause-lawful
returns-clause-lawful c =
    (laid_out (view_of c.self.inside) c.args.v c.args.ids.now c.longest.rest.now (view_of c.longest.self-inside)
    c.longest.self-inside.heaps c.longest.self-inside.dirty c.longest.self-inside.historical
    c.longest.self-inside.pending c.longest.invariant (nothing_left c.longest.rest.now c.in_default.ensures.cases)
    c.vertex.result c.clear.new.self c.vertex.ensures.value c.clear.ensures).stored.book
