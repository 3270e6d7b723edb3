use Rattle.std.proofs.Common.{◌≡◌, true, sym, ◌∙◌, ap, arith}
use Rattle.path_book.specs.Layout.{mark_at}
use Rattle.path_book.proofs.Places.{mark_within, marked_cleared, marked_without}
use Rattle.path_book.proofs.marks.clear.Goals as goal

pub index_mut-requires : goal.index_mut-requires
index_mut-requires c =
    let set_there : mark_at c.args.marks.now.items c.args.key ≡ true =
    ap (λ xs. mark_at xs c.args.key) (sym c.deref.ensures.value) ∙ sym c.is_marked-was.ensures ∙ c.if-was.true in
    let within = mark_within c.args.marks.now.items c.args.key set_there in
    omega (arith, within, c.args.marks.now.ok)

pub returns-then-was-clause-cleared : goal.returns-then-was-clause-cleared
returns-then-was-clause-cleared c =
    let set_there : mark_at c.args.marks.now.items c.args.key ≡ true =
    ap (λ xs. mark_at xs c.args.key) (sym c.deref.ensures.value) ∙ sym c.is_marked-was.ensures ∙ c.if-was.true in
    marked_cleared c.args.marks.now.items c.args.key (mark_within c.args.marks.now.items c.args.key set_there)

pub returns-else-was-clause-cleared : goal.returns-else-was-clause-cleared
returns-else-was-clause-cleared c =
    marked_without c.args.marks.now.items c.args.key
    (ap (λ xs. mark_at xs c.args.key) (sym c.deref.ensures.value) ∙ sym c.is_marked-was.ensures ∙ c.if-was.false)
